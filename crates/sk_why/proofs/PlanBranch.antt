-- The tree of a plan, with its elements, is of all constraints and of all nodes.
use Rattle.std.proofs.Common.{inl, inr, List, ◌++◌, [], ◌∷◌, sym, subst}
use Rattle.std.specs.Prelude.{Contains}
use Rattle.std.proofs.lemmas.List.Elements.{Contains-append_cases}
use Rattle.sk_base.specs.declared.ConId.{ConId}
use Rattle.sk_base.specs.declared.Graph.{Graph}
use Rattle.sk_base.specs.SoundGraph.{IsSoundGraph}
use Rattle.sk_base.proofs.Members.{contains_head, contains_later, contains_mapped}
use Rattle.sk_family.specs.Body.{Body, Start, starts}
use Rattle.sk_family.proofs.Bodies.{each_within}
use Rattle.sk_tree.specs.declared.Plan.{Plan}
use Rattle.sk_tree.specs.declared.Tree.{Tree}
use Rattle.sk_tree.specs.declared.Tree.TheVariants.{Leaf, Join'}
use Rattle.sk_tree.specs.LegalPlan.{IsLegalPlan}
use Rattle.sk_tree.specs.PlanTree.{IsPlanTree}
use Rattle.sk_tree.specs.Trees.{leaves_of}
use Rattle.sk_verdict.specs.OneCluster.{IsOneCluster}
use Rattle.sk_plan.specs.MadeBy.{IsMadeBy}
use Rattle.sk_plan.proofs.MadePlans.{plan_made}
use Rattle.sk_plan.proofs.PlanTells.{plan_sparse}
use Rattle.sk_plan.proofs.PlanTrees.{tree_leaves}
use Rattle.sk_why.specs.declared.branches.Branch.{Branch}
use Rattle.sk_why.specs.BranchOf.{IsGrownBy, IsTreeOfAll}

-- a tree's leaves are what its body owns
owned_leaves : (g : Graph) (t : Tree) (x : Body) → IsMadeBy g t x → (k : ConId) → Contains (leaves_of t) k → Contains x.owned k
owned_leaves g (Leaf m) x (s, s_in, is, same) k h =
    subst (λ (b : Body). Contains b.owned k) (sym same) (subst (λ (j : ConId). Contains (j ∷ []) k) (sym is) h)
owned_leaves g (Join' p step shared one two three) x (a, b, c, third, a_made, b_made, c_made, some, once, same) k h =
    subst (λ (z : Body). Contains z.owned k) (sym same)
    (elim (Contains-append_cases (leaves_of one) (leaves_of two ++ leaves_of three) k h) [
      | inl first ↦ (each_within (c ∷ b ∷ a ∷ []) a (contains_later c (b ∷ a ∷ []) a (contains_later b (a ∷ []) a (contains_head a [])))).owned k (owned_leaves g one a a_made k first)
      | inr rest ↦ elim (Contains-append_cases (leaves_of two) (leaves_of three) k rest) [
        | inl second ↦ (each_within (c ∷ b ∷ a ∷ []) b (contains_later c (b ∷ a ∷ []) b (contains_head b (a ∷ [])))).owned k (owned_leaves g two b b_made k second)
        | inr last ↦ (each_within (c ∷ b ∷ a ∷ []) c (contains_head c (b ∷ a ∷ []))).owned k (owned_leaves g three c c_made k last)
      ]
    ])

pub tree_of_all : (g : Graph) → IsSoundGraph g → (plan : Plan) → IsLegalPlan g plan → IsOneCluster g → (tree : Tree) → IsPlanTree plan tree → (t : Branch) → ((x : Body) → IsMadeBy g tree x → IsGrownBy g t x) → IsTreeOfAll g t
tree_of_all g sound plan legal one tree is t grows =
    let (x, made, nodes) = plan_made g plan sound legal tree is in
    record {
      body = x;
      grown = grows x made;
      nodes = nodes;
      owns = λ s s_in. owned_leaves g tree x made s.number (((tree_leaves g plan sound legal tree is).just s.number).1
          (subst (λ (js : List ConId). Contains js s.number) (sym legal.leaves) (contains_mapped (λ (z : Start). z.number) (starts g) s s_in)));
      one = one;
      sparse = plan_sparse g plan sound legal;
    }
