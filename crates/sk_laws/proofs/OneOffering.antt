-- A list of offers has one list of answers.
use Rattle.std.proofs.Common.{◌≡◌, refl, ℕ, List, [], ◌∷◌, ◌++◌, ap, sym, subst, ◌∙◌}
use Rattle.std.specs.Prelude.{All}
use Rattle.std.proofs.lemmas.List.Elements.{All-nil, All-cons, All-head, All-tail}
use Rattle.sk_base.specs.declared.Name.{Name}
use Rattle.sk_base.specs.declared.Graph.{Graph}
use Rattle.sk_family.specs.Clusters.{Clusters, IsLive}
use Rattle.sk_family.specs.declared.Merge.{Merge}
use Rattle.sk_family.specs.declared.Merge.TheVariants.{Two, Three}
use Rattle.sk_rules.specs.Merges.{Holds, merged}
use Rattle.sk_family.specs.Merges.{names_of}
use Rattle.sk_offers.specs.declared.Answer.{Answer}
use Rattle.sk_offers.specs.declared.Answer.TheVariants.{Taken, Stale, Idle}
use Rattle.sk_offers.specs.Offering.{Table, IsFirstStale, IsAnswer, Follows}
use Rattle.sk_report.specs.AnswerLine.{answer_line}
use Rattle.sk_offers.specs.declared.OfferLine.{OfferLine}
use Rattle.sk_answers.specs.OffersReport.{AreAnswered}

all_at : {X : Type 0} (P : X → Type 0) (before : List X) (x : X) (after : List X) → All P (before ++ x ∷ after) → P x
all_at P [] x after all = All-head P x after all
all_at P (y ∷ before) x after all = all_at P before x after (All-tail P y (before ++ x ∷ after) all)

-- the first that isn't live, of names cut in two ways
same_cut : (f : Clusters) (before before' after after' : List Name) (n m : Name) → before ++ n ∷ after ≡ before' ++ m ∷ after'
    → All (λ k. IsLive f k) before → All (λ k. IsLive f k) before' → ¬ IsLive f n → ¬ IsLive f m → n ≡ m
same_cut f [] [] after after' n m same live live' dead dead' = cc same
same_cut f [] (y ∷ before') after after' n m same live live' dead dead' =
    let here : n ≡ y = cc same in absurd (dead (subst (λ k. IsLive f k) (sym here) (All-head (λ k. IsLive f k) y before' live')))
same_cut f (x ∷ before) [] after after' n m same live live' dead dead' =
    let here : x ≡ m = cc same in absurd (dead' (subst (λ k. IsLive f k) here (All-head (λ k. IsLive f k) x before live)))
same_cut f (x ∷ before) (y ∷ before') after after' n m same live live' dead dead' =
    same_cut f before before' after after' n m (cc same) (All-tail (λ k. IsLive f k) x before live) (All-tail (λ k. IsLive f k) y before' live') dead dead'

same_stale : (f : Clusters) (names : List Name) (n m : Name) → IsFirstStale f names n → IsFirstStale f names m → n ≡ m
same_stale f names n m one other =
    same_cut f one.before other.before one.after other.after n m (sym one.parts ∙ other.parts) one.live_before other.live_before one.not_live other.not_live

-- where a name isn't live, not all are
not_all_live : (f : Clusters) (names : List Name) (n : Name) → IsFirstStale f names n → ¬ All (λ k. IsLive f k) names
not_all_live f names n stale all =
    stale.not_live (all_at (λ k. IsLive f k) stale.before n stale.after (subst (λ ks. All (λ k. IsLive f k) ks) stale.parts all))

holds_live : (g : Graph) (f : Clusters) (m : Merge) → Holds g f m → All (λ k. IsLive f k) (names_of m)
holds_live g f (Two x y) (a, b, x_is, y_is, shares) =
    All-cons (λ k. IsLive f k) x (y ∷ []) (a, x_is) (All-cons (λ k. IsLive f k) y [] (b, y_is) (All-nil (λ k. IsLive f k)))
holds_live g f (Three x y z) (a, b, c, x_is, y_is, z_is, meets) =
    All-cons (λ k. IsLive f k) x (y ∷ z ∷ []) (a, x_is) (All-cons (λ k. IsLive f k) y (z ∷ []) (b, y_is) (All-cons (λ k. IsLive f k) z [] (c, z_is) (All-nil (λ k. IsLive f k))))

same_answer : (g : Graph) (f : Clusters) (m : Merge) (a b : Answer) → IsAnswer g f m a → IsAnswer g f m b → a ≡ b
same_answer g f m (Stale n) (Stale k) one other = ap Stale (same_stale f (names_of m) n k one other)
same_answer g f m (Stale n) Idle one other = absurd (not_all_live f (names_of m) n one other.0)
same_answer g f m (Stale n) (Taken k) one other = absurd (not_all_live f (names_of m) n one (holds_live g f m other.0))
same_answer g f m Idle (Stale k) one other = absurd (not_all_live f (names_of m) k other one.0)
same_answer g f m Idle Idle one other = refl
same_answer g f m Idle (Taken k) one other = absurd (one.1 other.0)
same_answer g f m (Taken n) (Stale k) one other = absurd (not_all_live f (names_of m) k other (holds_live g f m one.0))
same_answer g f m (Taken n) Idle one other = absurd (other.1 one.0)
same_answer g f m (Taken n) (Taken k) one other = ap Taken (one.1 ∙ sym other.1)

abbrev family_after : Clusters → Merge → Answer → Clusters
family_after f m (Taken n) = merged f m
family_after f m (Stale n) = f
family_after f m Idle = f

follows_family : (t next : Table) (m : Merge) (a : Answer) → Follows t m a next → next.family ≡ family_after t.family m a
follows_family t next m (Taken n) takes = ap (λ (z : Table). z.family) takes.table
follows_family t next m (Stale n) same = ap (λ (z : Table). z.family) same
follows_family t next m Idle same = ap (λ (z : Table). z.family) same

follows_graph : (t next : Table) (m : Merge) (a : Answer) → Follows t m a next → next.graph ≡ t.graph
follows_graph t next m (Taken n) takes = ap (λ (z : Table). z.graph) takes.table
follows_graph t next m (Stale n) same = ap (λ (z : Table). z.graph) same
follows_graph t next m Idle same = ap (λ (z : Table). z.graph) same

pub same_lines : (os : List OfferLine) (t u end end' : Table) (text another : List ℕ) → t.graph ≡ u.graph → t.family ≡ u.family
    → AreAnswered t os end text → AreAnswered u os end' another → text ≡ another
same_lines [] t u end end' text another graph family (end_is, is) (end_is', is') = is ∙ sym is'
same_lines (o ∷ os) t u end end' text another graph family (a, next, rest, answer, follows, more, is) (b, next', rest', answer', follows', more', is') =
    let moved : IsAnswer u.graph u.family o.merge a = rw (sym graph, sym family) answer in
    let one : a ≡ b = same_answer u.graph u.family o.merge a b moved answer' in
    let graph_on : next.graph ≡ next'.graph = follows_graph t next o.merge a follows ∙ graph ∙ sym (follows_graph u next' o.merge b follows') in
    let family_on : next.family ≡ next'.family =
    follows_family t next o.merge a follows ∙ ap (λ f. family_after f o.merge a) family ∙ ap (λ z. family_after u.family o.merge z) one ∙ sym (follows_family u next' o.merge b follows') in
    let rest_is : rest ≡ rest' = same_lines os next next' end end' rest rest' graph_on family_on more more' in
    is ∙ ap (λ z. answer_line o.worker z ++ rest) one ∙ ap (λ z. answer_line o.worker b ++ z) rest_is ∙ sym is'
