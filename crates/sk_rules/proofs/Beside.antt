-- What constraints of one cluster make alone stands beside the other clusters: with these, it is what the graph makes
-- without the cluster's other constraints.
use Rattle.std.proofs.Common.{◌≡◌, ◌≢◌, ◌⊎◌, inl, inr, Bool, true, List, [], ◌∷◌, ◌++◌, refl, sym, subst}
use Rattle.std.specs.Prelude.{Contains, ◌↔◌, ◌==◌, ◌&&◌}
use Rattle.std.specs.List.{list_any}
use Rattle.std.proofs.lemmas.List.Elements.{Contains-append_left, Contains-append_right, Contains-append_cases}
use Rattle.std.proofs.lemmas.Bool.{and_parts}
use Rattle.sk_base.specs.declared.Elem.{Elem}
use Rattle.sk_base.specs.declared.ConId.{ConId}
use Rattle.sk_base.specs.declared.Graph.{Graph}
use Rattle.sk_base.specs.SoundGraph.{IsSoundGraph}
use Rattle.sk_base.specs.Numbering.{con_number, con_exact}
use Rattle.sk_base.proofs.Members.{contains_head, contains_one, contains_mapped, mapped_from}
use Rattle.sk_base.proofs.Numbers.{among_found, found_among}
use Rattle.sk_family.specs.Body.{Body, Start, starts, starting, initial_bodies, SameBodies}
use Rattle.sk_family.proofs.GraphStarts.{start_at}
use Rattle.sk_family.proofs.Bodies.{Within, within_itself, whole_within, body_settles}
use Rattle.sk_rules.specs.JustSome.{with_just}
use Rattle.sk_rules.specs.Reach.{Step, IsClosed, IsNormal}
use Rattle.sk_rules.specs.Keeping.{IsReached, Completes, TakesPlace}
use Rattle.sk_rules.proofs.Closing.{no_merge_of_one, closed_same}
use Rattle.sk_rules.proofs.Counting.{IsTight, reached_tight}
use Rattle.sk_rules.proofs.Families.{kept_along}
use Rattle.sk_rules.proofs.JustSome.{in_part, sound_part, all_pass}
use Rattle.sk_rules.proofs.Keeping.{others, reached_then, can_carry, kept_is_reached}
use Rattle.sk_rules.proofs.KeptFamily.{each_owned}
use Rattle.sk_rules.proofs.NormalForm.{one_around, normal_same}

-- whether the constraint is one of these, and passes
abbrev pub passes_among : List ConId → (ConId → Bool) → ConId → Bool
passes_among owned passes k = list_any (λ (j : ConId). j.0 == k.0) owned && passes k

-- the graph of these constraints alone, as far as they pass, with all nodes
abbrev pub alone_graph : List ConId → (ConId → Bool) → Graph → Graph
alone_graph owned passes g = with_just (passes_among owned passes) g

pub in_alone : (g : Graph) → IsSoundGraph g → (owned : List ConId) (passes : ConId → Bool) (s : Start) →
    Contains (starts (alone_graph owned passes g)) s ↔ (Contains (starts g) s × Contains owned s.number × (passes s.number ≡ true))
in_alone g sound owned passes s = (
  (λ h. (
      let was = (in_part g (passes_among owned passes) sound s).0 h in
      let both = and_parts (list_any (λ (j : ConId). j.0 == s.number.0) owned) (passes s.number) was.1 in
      (was.0, among_found con_number con_exact owned s.number both.0, both.1))),
  (λ h. (in_part g (passes_among owned passes) sound s).1 (h.0, rw (found_among con_number owned s.number h.1) h.2)),
)

starting_within : (s : Start) (x : Body) → Contains x.owned s.number → ((e : Elem) → Contains s.elements e → Contains x.elements e) → Within (starting s) x
starting_within s x owned within = record {
  elements = within;
  owned = λ j h. subst (λ z. Contains x.owned z) (contains_one s.number j h) owned;
}

-- what does not pass is the cluster's
abbrev pub OthersPass : Graph → Body → (ConId → Bool) → Type 0
OthersPass g x passes = (s : Start) → Contains (starts g) s → (¬ Contains x.owned s.number) → passes s.number ≡ true

module _ (g : Graph) (f : List Body) (x : Body) (passes : ConId → Bool) (sound : IsSoundGraph g) (normal : IsNormal g f) (x_in : Contains f x) (others_pass : OthersPass g x passes)
    (rest : List Body) (in_rest : (y : Body) → Contains rest y ↔ (Contains f y × (y ≢ x))) where
  abbrev small : Graph
  small = with_just passes g

  abbrev alone : Graph
  alone = alone_graph x.owned passes g

  tight : IsTight g f
  tight = reached_tight g f sound.edges_rise normal.reached

  as_it_is : IsReached g f
  as_it_is = record { reached_as = f; reach = normal.reached; same = λ y. ((λ h. h), (λ h. h)) }

  -- the others own what it does not
  not_owned : (y : Body) → Contains rest y → (k : ConId) → Contains y.owned k → ¬ Contains x.owned k
  not_owned y kept k owned x_owned =
      let was = (in_rest y).0 kept in
      was.1 (tight.family.apart y x k was.0 x_in owned x_owned)

  not_within : (y : Body) → Contains rest y → ¬ Within y x
  not_within y kept within =
      let owned = tight.family.owns y ((in_rest y).0 kept).0 in
      not_owned y kept owned.0 owned.1 (within.owned owned.0 owned.1)

  -- the bodies lie within the cluster, and beside the others they are reached
  abbrev StandBeside : List Body → Type 0
  StandBeside m = ((y : Body) → Contains m y → Within y x) × IsReached small (rest ++ m)

  start_within : (y : Body) → Contains (initial_bodies alone) y → Within y x
  start_within y y_in =
      let found = mapped_from starting (starts alone) y y_in in
      let was = (in_alone g sound x.owned passes found.0).0 found.1 in
      let (start, start_in, is, within) = tight.inside x x_in found.0.number was.1 in
      let same : start ≡ found.0 = start_at g sound.edges_rise start found.0 start_in was.0 is in
      subst (λ z. Within z x) found.2 (starting_within found.0 x was.1
      (subst (λ (t : Start). (e : Elem) → Contains t.elements e → Contains x.elements e) same within))

  completes : Completes small rest (rest ++ initial_bodies alone)
  completes y = (
    (λ h. elim (Contains-append_cases rest (initial_bodies alone) y h) [
      | inl kept ↦ inl kept
      | inr starts_so ↦ (
          let found = mapped_from starting (starts alone) y starts_so in
          let was = (in_alone g sound x.owned passes found.0).0 found.1 in
          inr (
            found.0,
            (in_part g passes sound found.0).1 (was.0, was.2),
            (λ owned. not_owned owned.0 owned.1 found.0.number owned.2 was.1),
            sym found.2,
          ))
    ]),
    (λ h. elim h [
      | inl kept ↦ Contains-append_left rest (initial_bodies alone) y kept
      | inr (d, d_in, not, is) ↦ (
          let was = (in_part g passes sound d).0 d_in in
          let owner = each_owned g f as_it_is d was.0 in
          elim (body_settles owner.0 x) [
            | inl same ↦ subst (λ z. Contains (rest ++ initial_bodies alone) z) (sym is)
                (Contains-append_right rest (initial_bodies alone) (starting d)
                (contains_mapped starting (starts alone) d ((in_alone g sound x.owned passes d).1 (was.0, subst (λ (z : Body). Contains z.owned d.number) same owner.2, was.1))))
            | inr differ ↦ absurd (not (owner.0, (in_rest owner.0).1 (owner.1, differ), owner.2))
          ])
    ]),
  )

  start_beside : StandBeside (initial_bodies alone)
  start_beside = (
    start_within,
    kept_is_reached g small f rest (rest ++ initial_bodies alone) (sound_part g passes sound).edges_rise as_it_is (λ y h. ((in_rest y).0 h).0)
        (λ y y_in. record {
          starts = λ d d_in owned. contains_mapped starting (starts small) d ((in_part g passes sound d).1 (d_in, others_pass d d_in (not_owned y y_in d.number owned)));
          lines = λ e e_in line. line;
        })
        completes,
  )

  step_beside : (m new : List Body) → Step alone m new → StandBeside m → StandBeside new
  step_beside m new one (within, reached) = (
    (λ y h. elim ((one.replaces y).0 h) [
      | inl is ↦ subst (λ z. Within z x) (sym is) (whole_within one.merged (λ z z_in. within z (one.among z z_in)))
      | inr stayed ↦ within y stayed.0
    ]),
    reached_then small (rest ++ m) (rest ++ new) reached (record {
      merged = one.merged;
      can_merge = can_carry alone small one.merged (λ y y_in e e_in line. line) one.can_merge;
      among = λ y h. Contains-append_right rest m y (one.among y h);
      replaces = λ y. (
        (λ h. elim (Contains-append_cases rest new y h) [
          | inl kept ↦ inr (Contains-append_left rest m y kept, λ merged. not_within y kept (within y (one.among y merged)))
          | inr made ↦ elim ((one.replaces y).0 made) [
            | inl is ↦ inl is
            | inr stayed ↦ inr (Contains-append_right rest m y stayed.0, stayed.1)
          ]
        ]),
        (λ h. elim h [
          | inl is ↦ Contains-append_right rest new y ((one.replaces y).1 (inl is))
          | inr stayed ↦ elim (Contains-append_cases rest m y stayed.0) [
            | inl kept ↦ Contains-append_left rest new y kept
            | inr was ↦ Contains-append_right rest new y ((one.replaces y).1 (inr (was, stayed.1)))
          ]
        ]),
      );
    }),
  )

  module _ (n : List Body) (n_normal : IsNormal alone n) where
    beside : StandBeside n
    beside = kept_along alone StandBeside step_beside (initial_bodies alone) n n_normal.reached start_beside

    alone_tight : IsTight alone n
    alone_tight = reached_tight alone n (sound_part g (passes_among x.owned passes) sound).edges_rise n_normal.reached

    -- no merge with the others can come
    closed_beside : IsClosed small (rest ++ n)
    closed_beside some among can =
        let of_both : (y : Body) → Contains some y → Contains rest y ⊎ Contains n y = λ y h. Contains-append_cases rest n y (among y h) in
        let around = one_around g f normal.closed some (can_carry small g some (λ y y_in e e_in line. line) can) (λ y h. elim (of_both y h) [
          | inl kept ↦ (y, ((in_rest y).0 kept).0, within_itself y)
          | inr made ↦ (x, x_in, beside.0 y made)
        ]) in
        elim (body_settles around.0 x) [
          | inl is ↦ n_normal.closed some (λ y h. elim (of_both y h) [
            | inl kept ↦ absurd (not_within y kept (subst (λ z. Within y z) is (around.2 y h)))
            | inr made ↦ made
          ]) (can_carry small alone some (λ y y_in e e_in line. line) can)
          | inr differs ↦ no_merge_of_one small some around.0 can (λ y h. elim (of_both y h) [
            | inl kept ↦ (
                let y_in = ((in_rest y).0 kept).0 in
                let owned = tight.family.owns y y_in in
                tight.family.apart y around.0 owned.0 y_in around.1 owned.1 ((around.2 y h).owned owned.0 owned.1))
            | inr made ↦ (
                let owned = alone_tight.family.owns y made in
                absurd (differs (tight.family.apart around.0 x owned.0 around.1 x_in ((around.2 y h).owned owned.0 owned.1) ((beside.0 y made).owned owned.0 owned.1))))
          ])
        ]

    normal_beside : (m : List Body) × IsNormal small m × TakesPlace f x n m
    normal_beside =
        let r = beside.1 in (
          r.reached_as,
          record { reached = r.reach; closed = closed_same small (rest ++ n) r.reached_as r.same closed_beside },
          λ y. (
            (λ h. elim (Contains-append_cases rest n y ((r.same y).0 h)) [ inl kept ↦ inl ((in_rest y).0 kept) | inr new ↦ inr new ]),
            (λ h. (r.same y).1 (elim h [
              | inl kept ↦ Contains-append_left rest n y ((in_rest y).1 kept)
              | inr new ↦ Contains-append_right rest n y new
            ])),
          ),
        )

    body_owns : (y : Body) → Contains n y → Within y x × ((k : ConId) × Contains y.owned k)
    body_owns y made = (beside.0 y made, alone_tight.family.owns y made)

-- what they make takes the cluster's place, whatever does not pass
pub takes_place : (g : Graph) (f : List Body) (x : Body) (passes : ConId → Bool) → IsSoundGraph g → IsNormal g f → Contains f x → OthersPass g x passes
    → (n : List Body) → IsNormal (alone_graph x.owned passes g) n → (m : List Body) × IsNormal (with_just passes g) m × TakesPlace f x n m
takes_place g f x passes sound normal x_in others_pass n n_normal = normal_beside g f x passes sound normal x_in others_pass (others x f).0 (others x f).1 n n_normal

-- so where all pass they make the cluster, and nothing else
pub makes_itself : (g : Graph) (f : List Body) (x : Body) → IsSoundGraph g → IsNormal g f → Contains f x → (n : List Body) → IsNormal (alone_graph x.owned (λ k. true) g) n → SameBodies n (x ∷ [])
makes_itself g f x sound normal x_in n n_normal y =
    let (m, m_normal, place) = takes_place g f x (λ k. true) sound normal x_in (λ s s_in not. refl) n n_normal in
    let same = normal_same g m f sound.edges_rise (subst (λ h. IsNormal h m) (all_pass g) m_normal) normal in
    let tight : IsTight g f = reached_tight g f sound.edges_rise normal.reached in (
      (λ made. (
          let (within, owned) = body_owns g f x (λ k. true) sound normal x_in (λ s s_in not. refl) (others x f).0 (others x f).1 n n_normal y made in
          let is = tight.family.apart x y owned.0 x_in ((same y).0 ((place y).1 (inr made))) (within.owned owned.0 owned.1) owned.1 in
          subst (λ z. Contains (x ∷ []) z) is (contains_head x []))),
      (λ h. subst (λ z. Contains n z) (contains_one x y h) (elim ((place x).0 ((same x).1 x_in)) [
        | inl other ↦ absurd (other.1 refl)
        | inr made ↦ made
      ])),
    )
