-- The steps of a legal plan are merges that are taken one after another, each of clusters that meet once.
use Rattle.std.proofs.Common.{◌≡◌, inl, inr, refl, List, [], ◌∷◌, ap, arith, subst}
use Rattle.std.specs.Prelude.{Contains, map}
use Rattle.sk_base.specs.declared.Elem.{Elem}
use Rattle.sk_base.specs.declared.Graph.{Graph}
use Rattle.sk_base.specs.declared.Kind.{Kind}
use Rattle.sk_base.specs.declared.Kind.TheVariants.{Point, Line}
use Rattle.sk_base.specs.SoundGraph.{HasNode}
use Rattle.sk_base.proofs.Members.{contains_none, contains_one, contains_cases, contains_mapped}
use Rattle.sk_family.specs.Clusters.{Clusters}
use Rattle.sk_rules.specs.Merges.{ComesBefore, IsLeastTriangle}
use Rattle.sk_rules.specs.Taking.{IsTaken, Leads}
use Rattle.sk_tree.specs.declared.Choice.{Choice}
use Rattle.sk_tree.specs.declared.Choice.TheVariants.{Turn, Advance, Nothing}
use Rattle.sk_tree.specs.declared.PlanStep.{PlanStep}
use Rattle.sk_tree.specs.Meeting.{MeetsOnce}
use Rattle.sk_tree.specs.LegalPlan.{taken_told, FitsKinds, IsLegalStep, IsWhole, AreLegalSteps, next_after}
use Rattle.sk_verdict.specs.Parts.{elem_of}
use Rattle.sk_plan.specs.Runs.{TakesOnce, EachTakesOnce}

-- where three meet once, theirs is the only triangle, and so the least
only_triangle : (g : Graph) (xs ys zs : List Elem) (a b c : Elem) → MeetsOnce g xs ys zs a b c → IsLeastTriangle g xs ys zs a b c
only_triangle g xs ys zs a b c once = record {
  triangle = once.triangle;
  least = λ p q r t before. not_before p q r (once.only_a p t.a_shared) (once.only_b q t.b_shared) (once.only_c r t.c_shared) before;
}
  where
    not_before : (p q r : Elem) → p ≡ a → q ≡ b → r ≡ c → ¬ ComesBefore p q r a b c
    not_before p q r p_is q_is r_is (inl below) = (let level = ap (λ (e : Elem). e.0) p_is in absurd (omega arith))
    not_before p q r p_is q_is r_is (inr (same, inl below)) = (let level = ap (λ (e : Elem). e.0) q_is in absurd (omega arith))
    not_before p q r p_is q_is r_is (inr (same, inr (level, below))) = (let last = ap (λ (e : Elem). e.0) r_is in absurd (omega arith))

module _ (g : Graph) (f : Clusters) (s : PlanStep) (legal : IsLegalStep g f s) where
  pub step_taken : IsTaken g f (taken_told s)
  step_taken =
      let j = legal.joins in
      record {
        falls = legal.falls;
        shared = (j.one, j.two, j.three, j.one_named, j.two_named, j.three_named, (s.c, refl, only_triangle g j.one.elements j.two.elements j.three.elements s.a s.b s.c j.meets));
        is_next = legal.next;
      }

  step_takes : TakesOnce g f (taken_told s)
  step_takes = record {
    one = s.one;
    two = s.two;
    three = s.three;
    third = s.c;
    merge = refl;
    shared = refl;
    joins = legal.joins;
  }

-- where legal steps end
pub record Arrives (g : Graph) (f : Clusters) (steps : List PlanStep) : Type 0 where
  pub end : Clusters
  pub leads : Leads g f (map taken_told steps) end
  pub once : EachTakesOnce g f (map taken_told steps)
  pub whole : IsWhole g end

pub arrives : (g : Graph) (f : Clusters) (steps : List PlanStep) → AreLegalSteps g f steps → Arrives g f steps
arrives g f [] whole = record { end = f; leads = refl; once = tt; whole = whole }
arrives g f (s ∷ ss) (legal, rest) = (let later = arrives g (next_after f s) ss rest in record {
  end = later.end;
  leads = (step_taken g f s legal, later.leads);
  once = (step_takes g f s legal, later.once);
  whole = later.whole;
})

-- each step is at three nodes
pub record AreNodes (g : Graph) (a b c : Elem) : Type 0 where
  pub first : Contains (map elem_of g.nodes) a
  pub second : Contains (map elem_of g.nodes) b
  pub third : Contains (map elem_of g.nodes) c

node_there : (g : Graph) (e : Elem) (kind : Kind) → HasNode g e kind → Contains (map elem_of g.nodes) e
node_there g e kind h = contains_mapped elem_of g.nodes (record { elem = e; kind = kind }) h

three_nodes : (g : Graph) (a b c : Elem) (j k l : Kind) → HasNode g a j → HasNode g b k → HasNode g c l → AreNodes g a b c
three_nodes g a b c j k l p q r = record { first = node_there g a j p; second = node_there g b k q; third = node_there g c l r }

fits_nodes : (g : Graph) (a b c : Elem) (choice : Choice) → FitsKinds g a b c choice → AreNodes g a b c
fits_nodes g a b c (Turn sign) (p, q, r) = three_nodes g a b c Point Point Point p q r
fits_nodes g a b c (Advance sign) (inl (p, q, r)) = three_nodes g a b c Line Point Point p q r
fits_nodes g a b c (Advance sign) (inr (inl (p, q, r))) = three_nodes g a b c Point Line Point r p q
fits_nodes g a b c (Advance sign) (inr (inr (p, q, r))) = three_nodes g a b c Point Point Line q r p
fits_nodes g a b c Nothing (inl (p, q, r)) = three_nodes g a b c Point Line Line p q r
fits_nodes g a b c Nothing (inr (inl (p, q, r))) = three_nodes g a b c Line Point Line r p q
fits_nodes g a b c Nothing (inr (inr (p, q, r))) = three_nodes g a b c Line Line Point q r p

pub corners_of : (g : Graph) (f : Clusters) (steps : List PlanStep) → AreLegalSteps g f steps → (s : PlanStep) → Contains steps s → (e : Elem) → Contains (s.a ∷ s.b ∷ s.c ∷ []) e → Contains (map elem_of g.nodes) e
corners_of g f [] whole s s_in e e_in = absurd (contains_none s s_in)
corners_of g f (t ∷ ss) (legal, rest) s s_in e e_in =
    elim (contains_cases t ss s s_in) [
      | inl here ↦ (
          let nodes = subst (λ (u : PlanStep). AreNodes g u.a u.b u.c) here (fits_nodes g t.a t.b t.c t.choice legal.choice) in
          elim (contains_cases s.a (s.b ∷ s.c ∷ []) e e_in) [
            | inl is ↦ subst (λ x. Contains (map elem_of g.nodes) x) is nodes.first
            | inr more ↦ elim (contains_cases s.b (s.c ∷ []) e more) [
              | inl is ↦ subst (λ x. Contains (map elem_of g.nodes) x) is nodes.second
              | inr last ↦ subst (λ x. Contains (map elem_of g.nodes) x) (contains_one s.c e last) nodes.third
            ]
          ])
      | inr later ↦ corners_of g (next_after f t) ss rest s later e e_in
    ]
