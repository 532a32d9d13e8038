-- The one line that tells what a check of a claim found.
use Rattle.std.specs.Prelude.{List, ℕ, ◌++◌, length, codes}
use Rattle.std.specs.Fmt.{decimal}
use Rattle.sk_base.specs.declared.Name.TheVariants as names
use Rattle.sk_base.specs.declared.Sketch.{Sketch}
use Rattle.sk_base.specs.ElementNames.{name_of}
use Rattle.sk_text.specs.ClusterName.{cluster_name}
use Rattle.sk_claims.specs.declared.Claim.{Claim}
use Rattle.sk_verify.specs.declared.failure.Failure.{Failure}
use Rattle.sk_verify.specs.declared.failure.Failure.TheVariants.{Step, Parts, Element, Line, Con, Sign}

-- what fails
abbrev pub failing_words : Sketch → Failure → List ℕ
failing_words s (Step n) = cluster_name n
failing_words s Parts = codes "parts"
failing_words s (Element e) = codes "element " ++ name_of s e
failing_words s (Line e) = codes "line " ++ name_of s e
failing_words s (Con k) = cluster_name (names.Con k.0)
failing_words s (Sign n) = codes "sign " ++ cluster_name n

abbrev pub failure_line : Sketch → Failure → List ℕ
failure_line s f = (codes "verify fails " ++ failing_words s f) ++ codes "\n"

-- the number of steps and the two tolerances
abbrev pub verified_line : Claim → List ℕ
verified_line c =
    codes "verified steps " ++ (decimal (length c.steps) ++ (codes " length " ++ (decimal c.t ++ (codes " nm angle " ++ (decimal c.w ++ codes " ppb\n")))))
