-- The text behind a sketch is read or refused, in one way.
use Rattle.std.proofs.Common.{◌≡◌, ◌⊎◌, inl, inr, ℕ, ◌+◌, Bool, true, false, not, ◌&&◌, cond, List, [], ◌∷◌, ◌++◌, length, map, Option, Some, None, refl, ap, subst, ◌∙◌, arith}
use Rattle.std.specs.Prelude.{codes, bytes_eq, is_none, ◌==◌}
use Rattle.std.specs.List.{list_any}
use Rattle.std.proofs.lemmas.Bool.Decides.{nat_tests}
use Rattle.std.proofs.lemmas.List.{length-map}
use Rattle.sk_base.specs.declared.Name.{Name}
use Rattle.sk_family.specs.declared.Merge.{Merge}
use Rattle.sk_family.specs.Merges.{IsMergeOf}
use Rattle.sk_lines.specs.Words.{is_too_long, has_wrong_byte, words_in}
use Rattle.sk_lines.specs.declared.Code.{Code}
use Rattle.sk_lines.specs.declared.Code.TheVariants.{E3, E4, E8, E10, E15, E16, E19}
use Rattle.sk_lines.specs.FirstCode.{first_code}
use Rattle.sk_lines.specs.Lines.{lines_in}
use Rattle.sk_lines.proofs.LineFaults.{IsClean, IsFault, clean_or_fault, no_fault, one_fault}
use Rattle.sk_base.proofs.Tables.{passed}
use Rattle.sk_offers.specs.declared.offer_line.OfferLine.{OfferLine}
use Rattle.sk_offers.specs.declared.offer_line.Place.{Place}
use Rattle.sk_offers.specs.declared.offer_line.Place.TheVariants.{Among, Past}
use Rattle.sk_offers.specs.OfferLines.{worker_of, named, is_bad_name, has_twins, offer_rows, end_rows, word_rows, code_of, place_after, behind_offer, offered, IsOfferOf, AreOffersOf}
use Rattle.sk_offers.specs.OfferReading.{place_along, HaveNoCode, ReadsOffers, RefusesOffers, AtLine, NoEnd}
use Rattle.sk_offers.proofs.OffersSoFar.{offers_append}
use Rattle.sk_neighbours.proofs.OneMerge.{one_merge}
use Rattle.sk_offers.proofs.FallingMerges.{some_pair, some_three}

-- the code at the end of the lines, where no `end` has come
abbrev end_code : Place → Option Code
end_code Among = Some E16
end_code Past = None

abbrev IsWhole : List ℕ → Type 0
IsWhole bytes = IsClean code_of place_after end_code Among (lines_in bytes)

abbrev IsFaulty : List ℕ → ℕ → ℕ → Code → Type 0
IsFaulty bytes n m code = IsFault code_of place_after end_code Among (lines_in bytes) n m code

missing : (place : Place) (code : Code) → end_code place ≡ Some code → (place ≡ Among) × (E16 ≡ code)
missing Among code is = (refl, cc)
missing Past code is = cc

ended : (place : Place) → end_code place ≡ None → place ≡ Past
ended Among is = cc
ended Past is = refl

-- a fault of the lines is a refusal of the text
refuses : (first : ℕ) (bytes : List ℕ) (n : ℕ) (code : Code) → IsFaulty bytes (first + 1) n code → RefusesOffers first bytes n code
refuses first bytes n code (inl at) =
    let count : first + length at.before + 1 ≡ n = omega (arith, at.number) in
    subst (λ (m : ℕ). RefusesOffers first bytes m code) count (AtLine at.before at.line code at.first)
refuses first bytes n code (inr at) =
    let none = missing (place_along Among (lines_in bytes)) code at.code_is in
    let count : first + length (lines_in bytes) + 1 ≡ n = omega (arith, at.number) in
    subst (λ (c : Code). RefusesOffers first bytes n c) none.1 (subst (λ (m : ℕ). RefusesOffers first bytes m E16) count (NoEnd at.clean none.0))

-- and a refusal is a fault
faulty : (first : ℕ) (bytes : List ℕ) (n : ℕ) (code : Code) → RefusesOffers first bytes n code → IsFaulty bytes (first + 1) n code
faulty first bytes n code (AtLine before line c found) = inl (record { before = before; line = line; first = found; number = omega arith })
faulty first bytes n code (NoEnd clean among) = inr (record { clean = clean; code_is = ap end_code among; number = omega arith })

whole : (bytes : List ℕ) (offers : List OfferLine) → ReadsOffers bytes offers → IsWhole bytes
whole bytes offers reads = record { clean = reads.clean; ended = ap end_code reads.ended }

-- words without a code offer a merge
worker_found : (worker : Option ℕ) → is_none worker ≡ false → (k : ℕ) × (worker ≡ Some k)
worker_found None e = cc
worker_found (Some k) e = (k, refl)

merge_found : (names : List Name) → (not (length names == 2) && not (length names == 3)) ≡ false → has_twins names ≡ false → (m : Merge) × IsMergeOf names m
merge_found [] count twins = cc
merge_found (x ∷ []) count twins = cc
merge_found (x ∷ y ∷ []) count twins = some_pair x y twins
merge_found (x ∷ y ∷ z ∷ []) count twins = some_three x y z twins
merge_found (x ∷ y ∷ z ∷ u ∷ more) count twins = absurd (grind (arith, nat_tests))

offer_found : (words : List (List ℕ)) → first_code (offer_rows words) ≡ None → (offer : OfferLine) × IsOfferOf words offer
offer_found [] e = cc
offer_found (worker ∷ names) e =
    let shape = passed (not (length names == 2) && not (length names == 3)) E3 _ e in
    let number = passed (is_none (worker_of worker)) E8 _ shape.1 in
    let are_names = passed (list_any is_bad_name names) E4 _ number.1 in
    let twins = passed (has_twins (map named names)) E10 _ are_names.1 in
    let found = worker_found (worker_of worker) number.0 in
    let count = ap (λ n. not (n == 2) && not (n == 3)) (length-map names named) ∙ shape.0 in
    let merge = merge_found (map named names) count twins.0 in
    (record { worker = found.0; merge = merge.0 }, (found.1, merge.1))

abbrev SomeOffers : List (List (List ℕ)) → Type 0
SomeOffers words = (offers : List OfferLine) × AreOffersOf words offers

said_by_word : (t : Bool) (first : List ℕ) (rest : List (List ℕ)) → first_code (cond t (offer_rows rest) (end_rows first rest)) ≡ None → SomeOffers (cond t (rest ∷ []) [])
said_by_word false first rest e = ([], tt)
said_by_word true first rest e = let offer = offer_found rest e in (offer.0 ∷ [], (offer.1, tt))

said_by : (a b : Bool) (place : Place) (words : List (List ℕ)) → first_code ((a, E15) ∷ (b, E19) ∷ word_rows place words) ≡ None → SomeOffers (behind_offer words)
said_by true b place words e = cc
said_by false true place words e = cc
said_by false false place [] e = ([], tt)
said_by false false Among (first ∷ rest) e = said_by_word (bytes_eq first (codes "offer")) first rest e
said_by false false Past (first ∷ rest) e = cc

some_offers : (lines : List (List ℕ)) (place : Place) → HaveNoCode place lines → SomeOffers (offered lines)
some_offers [] place clean = ([], tt)
some_offers (line ∷ lines) place clean =
    let here = said_by (is_too_long line) (has_wrong_byte line) place (words_in line) clean.0 in
    let rest = some_offers lines (place_after place line) clean.1 in
    (here.0 ++ rest.0, offers_append (behind_offer (words_in line)) here.0 (offered lines) rest.0 here.1 rest.1)

-- words offer one merge at most
same_worker : (worker : Option ℕ) (j k : ℕ) → worker ≡ Some j → worker ≡ Some k → j ≡ k
same_worker worker j k left right = cc

one_offer : (words : List (List ℕ)) (o p : OfferLine) → IsOfferOf words o → IsOfferOf words p → o ≡ p
one_offer [] o p left right = absurd left
one_offer (worker ∷ names) o p left right =
    let same = same_worker (worker_of worker) o.worker p.worker left.0 right.0 in
    let merge = one_merge (map named names) o.merge p.merge left.1 right.1 in
    ap (λ (k : ℕ). let offer : OfferLine = record { worker = k; merge = o.merge } in offer) same ∙ ap (λ (m : Merge). let offer : OfferLine = record { worker = p.worker; merge = m } in offer) merge

same_offers : (words : List (List (List ℕ))) (offers others : List OfferLine) → AreOffersOf words offers → AreOffersOf words others → offers ≡ others
same_offers [] [] [] left right = refl
same_offers [] [] (p ∷ ps) left right = absurd right
same_offers [] (o ∷ os) others left right = absurd left
same_offers (w ∷ ws) [] others left right = absurd left
same_offers (w ∷ ws) (o ∷ os) [] left right = absurd right
same_offers (w ∷ ws) (o ∷ os) (p ∷ ps) left right =
    let here = one_offer w o p left.0 right.0 in
    let rest = same_offers ws os ps left.1 right.1 in cc

-- exactly one of the two holds, with one list of offers or one refusal
pub some_answer : (first : ℕ) (bytes : List ℕ) → ((offers : List OfferLine) × ReadsOffers bytes offers) ⊎ ((n : ℕ) × ((code : Code) × RefusesOffers first bytes n code))
some_answer first bytes =
    elim (clean_or_fault code_of place_after end_code (lines_in bytes) Among (first + 1)) [
      | inl clean ↦
          let offers = some_offers (lines_in bytes) Among clean.clean in
          inl (offers.0, record { clean = clean.clean; ended = ended (place_along Among (lines_in bytes)) clean.ended; in_order = offers.1 })
      | inr (n, (code, fault)) ↦ inr (n, (code, refuses first bytes n code fault))
    ]

pub one_list : (bytes : List ℕ) (offers others : List OfferLine) → ReadsOffers bytes offers → ReadsOffers bytes others → offers ≡ others
one_list bytes offers others left right = same_offers (offered (lines_in bytes)) offers others left.in_order right.in_order

pub one_refusal : (first : ℕ) (bytes : List ℕ) (n m : ℕ) (c d : Code) → RefusesOffers first bytes n c → RefusesOffers first bytes m d → (n ≡ m) × (c ≡ d)
one_refusal first bytes n m c d left right =
    one_fault code_of place_after end_code Among (lines_in bytes) (first + 1) n m c d (faulty first bytes n c left) (faulty first bytes m d right)

pub not_both : (first : ℕ) (bytes : List ℕ) (offers : List OfferLine) (n : ℕ) (code : Code) → ReadsOffers bytes offers → RefusesOffers first bytes n code → ⊥
not_both first bytes offers n code reads refused =
    no_fault code_of place_after end_code Among (lines_in bytes) (first + 1) n code (whole bytes offers reads) (faulty first bytes n code refused)
