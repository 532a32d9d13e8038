-- What `migrate` writes reads as the sketch that was read, and is answered as it is.
use Rattle.std.proofs.Common.{◌≡◌, inl, inr, ℕ, ◌<◌, List, length, sym, subst}
use Rattle.sk_base.specs.declared.Sketch.{Sketch}
use Rattle.sk_base.specs.SoundSketch.{IsSoundSketch}
use Rattle.sk_lang.specs.Canonical.{canonical_2}
use Rattle.sk_lang.specs.Reading.{Reads}
use Rattle.sk_lang.specs.Renumbered.{renumbered}
use Rattle.sk_request.specs.declared.Account.{Account}
use Rattle.sk_request.specs.declared.Account.TheVariants.{Migrated}
use Rattle.sk_request.specs.declared.Command.{Command}
use Rattle.sk_request.specs.declared.Command.TheVariants.{Tell, Plan, Solve, Dxf, Offers, Session, Grow, Verify, Flips, Live, Complete, Measure}
use Rattle.sk_request.specs.declared.Request.{Request}
use Rattle.sk_cli.specs.declared.Report.{Report}
use Rattle.sk_cli.specs.declared.Report.TheVariants.{Places, Drawing}
use Rattle.sk_answers.specs.declared.Status.{Status}
use Rattle.sk_answers.specs.declared.Status.TheVariants.{Done, Refused}
use Rattle.sk_cli.specs.Accounts.{IsAccount}
use Rattle.sk_cli.specs.CompleteAnswer.{IsCompletedOrNot}
use Rattle.sk_cli.specs.Outcome.{IsAccountAnswer, IsPlanOrReport, IsSolveAnswer, IsSolved, IsAnswerOf, IsOutcome}
use Rattle.sk_laws.specs.Migration.{ReadsOneSketch, AskOfOneSketch, IsMigrated}
use Rattle.sk_request.proofs.OneRequest.{same_request}
use Rattle.sk_laws.proofs.OneOutcome.{OneSketch, NotBoth}
use Rattle.sk_laws.proofs.WhyEnds.{answer_about}

-- the laws of the language that it takes
pub record LawsOfText : Type 0 where
  pub one_sketch : OneSketch
  pub not_both : NotBoth
  pub sound : (bytes : List ℕ) (s : Sketch) → Reads bytes s → IsSoundSketch s
  pub some : (bytes : List ℕ) (s : Sketch) → Reads bytes s → 0 < length s.elements
  pub numbered : (bytes : List ℕ) (s : Sketch) → Reads bytes s → renumbered s ≡ s
  pub written : (s : Sketch) → IsSoundSketch s → 0 < length s.elements → Reads (canonical_2 s) (renumbered s)

module _ (laws : LawsOfText) where
  -- what is written of a sketch that was read reads as that sketch
  written_again : (bytes : List ℕ) (s : Sketch) → Reads bytes s → Reads (canonical_2 s) s
  written_again bytes s reads = subst (λ (z : Sketch). Reads (canonical_2 s) z) (laws.numbered bytes s reads) (laws.written s (laws.sound bytes s reads) (laws.some bytes s reads))

  pub migrated_reads : (bytes text : List ℕ) → IsMigrated bytes text → (s : Sketch) × Reads bytes s × Reads text s
  migrated_reads bytes text m =
      let answer : IsAccountAnswer Migrated m.request bytes Done text = subst (λ (c : Command). IsAnswerOf c m.request bytes Done text) m.migrates (answer_about m.words bytes text Done m.request m.outcome m.asks) in
      (answer.0, answer.1, subst (λ (z : List ℕ). Reads z answer.0) (sym answer.2) (written_again bytes answer.0 answer.1))

  -- two texts that read as one sketch
  module _ (a b : List ℕ) (s : Sketch) (reads_a : Reads a s) (reads_b : Reads b s) where
    account_moved : (account : Account) (request : Request) (status : Status) (text : List ℕ) → IsAccountAnswer account request a status text → IsAccountAnswer account request b status text
    account_moved account request Done text (t, reads, told) = (s, reads_b, subst (λ (z : Sketch). IsAccount account request z text) (laws.one_sketch a t s reads reads_a) told)
    account_moved account request Refused text (r, refuses, is) = absurd (laws.not_both a s r.line r.code reads_a refuses)
    account_moved account request status text answer = absurd answer

    solve_moved : (report : Report) (request : Request) (status : Status) (text : List ℕ) → IsSolveAnswer report request a status text → IsSolveAnswer report request b status text
    solve_moved report request Refused text (r, refuses, is) = absurd (laws.not_both a s r.line r.code reads_a refuses)
    solve_moved report request status text (t, reads, told) = (s, reads_b, subst (λ (z : Sketch). IsSolved report request z status text) (laws.one_sketch a t s reads reads_a) told)

    answer_moved : (command : Command) (request : Request) → ReadsOneSketch command → (status : Status) (text : List ℕ) → IsAnswerOf command request a status text → IsAnswerOf command request b status text
    answer_moved (Tell account) request one status text answer = account_moved account request status text answer
    answer_moved Solve request one status text answer = solve_moved Places request status text answer
    answer_moved Dxf request one status text answer = solve_moved Drawing request status text answer
    answer_moved Plan request one Refused text (r, refuses, is) = absurd (laws.not_both a s r.line r.code reads_a refuses)
    answer_moved Plan request one status text (t, reads, told) = (s, reads_b, subst (λ (z : Sketch). IsPlanOrReport request.order z status text) (laws.one_sketch a t s reads reads_a) told)
    answer_moved Offers request one status text answer = absurd one
    answer_moved Session request one status text answer = absurd one
    answer_moved Live request one status text answer = absurd one
    answer_moved (Grow n) request one status text answer = absurd one
    answer_moved Verify request one status text answer = absurd one
    answer_moved Flips request one status text answer = absurd one
    answer_moved Measure request one status text answer = absurd one
    answer_moved Complete request one Refused text (r, refuses, is) = absurd (laws.not_both a s r.line r.code reads_a refuses)
    answer_moved Complete request one status text (t, reads, told) = (s, reads_b, subst (λ (z : Sketch). IsCompletedOrNot z status text) (laws.one_sketch a t s reads reads_a) told)

    pub outcome_moved : (words : List (List ℕ)) → AskOfOneSketch words → (status : Status) (text : List ℕ) → IsOutcome words a status text → IsOutcome words b status text
    outcome_moved words (request, asks, one) status text (inr usage) = absurd (usage.0 (request, asks))
    outcome_moved words (request, asks, one) status text (inl (other, asks', answer)) =
        let same : request ≡ other = same_request words request other asks asks' in
        inl (other, asks', answer_moved other.command other (subst (λ (z : Request). ReadsOneSketch z.command) same one) status text answer)
