-- A list of offers has answers.
use Rattle.std.proofs.Common.{◌⊎◌, inl, inr, refl, ℕ, List, [], ◌∷◌, ◌++◌, ap}
use Rattle.std.specs.Prelude.{All}
use Rattle.std.proofs.lemmas.List.Elements.{All-nil, All-cons, All-head, All-tail}
use Rattle.sk_base.specs.declared.Name.{Name}
use Rattle.sk_base.specs.declared.Name.TheVariants.{Step}
use Rattle.sk_base.specs.declared.Graph.{Graph}
use Rattle.sk_family.specs.Clusters.{Clusters, IsLive}
use Rattle.sk_family.specs.declared.Merge.{Merge}
use Rattle.sk_family.specs.Merges.{Falls, names_of}
use Rattle.sk_rules.specs.Merges.{merged}
use Rattle.sk_offers.specs.declared.Answer.{Answer}
use Rattle.sk_offers.specs.declared.Answer.TheVariants.{Taken, Stale, Idle}
use Rattle.sk_offers.specs.Offering.{Table, IsFirstStale, IsAnswer, Follows}
use Rattle.sk_report.specs.AnswerLine.{answer_line}
use Rattle.sk_offers.specs.declared.OfferLine.{OfferLine}
use Rattle.sk_offers.specs.OfferLines.{FitsBoard}
use Rattle.sk_answers.specs.OffersReport.{AreAnswered}
use Rattle.sk_base.proofs.Deciding.{Decided, moved}
use Rattle.sk_rules.proofs.SettledRules.{some_named, holds_decided}
use Rattle.sk_close_by_order.proofs.SomeShared.{some_shared}

live_decided : (g : Graph) (f : Clusters) (n : Name) → Decided (IsLive f n)
live_decided g f n = moved (λ (c, named, h). (c, named)) (λ (c, named). (c, named, tt)) (some_named g f n (λ c. Unit {0}) (λ c. inl tt))

-- all are live, or there is a first that isn't
all_or_stale : (g : Graph) (f : Clusters) (names : List Name) → All (λ n. IsLive f n) names ⊎ ((n : Name) × IsFirstStale f names n)
all_or_stale g f [] = inl (All-nil (λ n. IsLive f n))
all_or_stale g f (m ∷ names) =
    elim (live_decided g f m) [
      | inr dead ↦ inr (m, record { before = []; after = names; parts = refl; live_before = All-nil (λ n. IsLive f n); not_live = dead })
      | inl live ↦ elim (all_or_stale g f names) [
        | inl all ↦ inl (All-cons (λ n. IsLive f n) m names live all)
        | inr (n, first) ↦ inr (
          n,
          record {
            before = m ∷ first.before;
            after = first.after;
            parts = ap (λ ns. m ∷ ns) first.parts;
            live_before = All-cons (λ k. IsLive f k) m first.before live first.live_before;
            not_live = first.not_live;
          },
        )
      ]
    ]

-- a falling merge has an answer, and a board follows it
record HasAnswer (t : Table) (m : Merge) : Type 0 where
  answer : Answer
  is : IsAnswer t.graph t.family m answer
  next : Table
  follows : Follows t m answer next

some_answer : (t : Table) (m : Merge) → Falls m → HasAnswer t m
some_answer t m falls =
    elim (all_or_stale t.graph t.family (names_of m)) [
      | inr (n, stale) ↦ record { answer = Stale n; is = stale; next = t; follows = refl }
      | inl live ↦ elim (holds_decided t.graph t.family m) [
        | inr never ↦ record { answer = Idle; is = (live, never); next = t; follows = refl }
        | inl holds ↦ (
            let shared = some_shared t.graph t.family m holds in
            record {
              answer = Taken (Step t.family.next_step);
              is = (holds, refl);
              next = record { graph = t.graph; family = merged t.family m; taken = t.taken ++ record { step = Step t.family.next_step; merge = m; shared = shared.0 } ∷ [] };
              follows = record {
                put = record { step = Step t.family.next_step; merge = m; shared = shared.0 };
                merge = refl;
                is_taken = record { falls = falls; shared = shared.1; is_next = refl };
                table = refl;
              };
            })
      ]
    ]

-- the offers are answered, one after another
pub record HasAnswers (t : Table) (offers : List OfferLine) : Type 0 where
  pub board : Table
  pub lines : List ℕ
  pub answered : AreAnswered t offers board lines

pub some_answers : (t : Table) (offers : List OfferLine) → All (λ o. FitsBoard o) offers → HasAnswers t offers
some_answers t [] fit = record { board = t; lines = []; answered = (refl, refl) }
some_answers t (o ∷ os) fit =
    let here = some_answer t o.merge (All-head (λ z. FitsBoard z) o os fit).2 in
    let rest = some_answers here.next os (All-tail (λ z. FitsBoard z) o os fit) in
    record {
      board = rest.board;
      lines = answer_line o.worker here.answer ++ rest.lines;
      answered = (here.answer, here.next, rest.lines, here.is, here.follows, rest.answered, refl);
    }
