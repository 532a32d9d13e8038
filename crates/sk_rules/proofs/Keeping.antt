-- Kept bodies are reached in the new graph too: what made them there is left out of the merges that
-- led to the old family, and done again.
use Rattle.std.proofs.Common.{◌≡◌, ◌≢◌, ◌⊎◌, inl, inr, List, [], ◌∷◌, ◌++◌, ap, sym, subst, ◌∙◌}
use Rattle.std.specs.Prelude.{◌↔◌, Contains, map}
use Rattle.std.proofs.lemmas.List.Elements.{Contains-append_left, Contains-append_right, Contains-append_cases}
use Rattle.sk_base.specs.declared.Elem.{Elem}
use Rattle.sk_base.specs.declared.ConId.{ConId}
use Rattle.sk_base.specs.declared.Graph.{Graph}
use Rattle.sk_base.specs.SoundGraph.{HasRisingEdges}
use Rattle.sk_family.specs.Body.{Body, Start, starts, join_all, starting, initial_bodies, SameBodies}
use Rattle.sk_base.proofs.Members.{Settles, contains_none, contains_head, contains_later, contains_one, contains_cases, contains_mapped, mapped_from}
use Rattle.sk_family.proofs.GraphStarts.{start_at}
use Rattle.sk_family.proofs.Bodies.{body_settles, each_within, owner_of}
use Rattle.sk_base.proofs.Deciding.{con_settles}
use Rattle.sk_family.specs.Rules.{IsLine}
use Rattle.sk_rules.specs.Reach.{CanMerge, AreAmong, Step, Reach, stays, goes}
use Rattle.sk_rules.specs.Keeping.{IsReached, IsOwned, Completes, CarriesOver}
use Rattle.sk_rules.proofs.Families.{kept_along}

pub contains_settles : {X : Type 0} → Settles X → (xs : List X) (x : X) → Contains xs x ⊎ (¬ Contains xs x)
contains_settles settles [] x = inr (contains_none x)
contains_settles settles (y ∷ ys) x =
    elim (settles y x) [
      | inl here ↦ inl (subst (λ z. Contains (y ∷ ys) z) here (contains_head y ys))
      | inr not_here ↦ elim (contains_settles settles ys x) [
        | inl later ↦ inl (contains_later y ys x later)
        | inr not_later ↦ inr (λ h. elim (contains_cases y ys x h) [ inl here ↦ not_here here | inr later ↦ not_later later ])
      ]
    ]

-- those of a list that have a property which is settled for each
selected : {X : Type 0} (P : X → Type 0) → ((x : X) → P x ⊎ (¬ P x)) → (xs : List X) → (ys : List X) × ((x : X) → Contains ys x ↔ (Contains xs x × P x))
selected P settled [] = ([], λ x. ((λ h. absurd (contains_none x h)), (λ h. h.0)))
selected P settled (y ∷ xs) =
    let rest = selected P settled xs in
    elim (settled y) [
      | inl has ↦ (
        y ∷ rest.0,
        λ x. (
          (λ h. elim (contains_cases y rest.0 x h) [
            | inl here ↦ subst (λ z. Contains (y ∷ xs) z × P z) here (contains_head y xs, has)
            | inr later ↦ (contains_later y xs x ((rest.1 x).0 later).0, ((rest.1 x).0 later).1)
          ]),
          (λ h. elim (contains_cases y xs x h.0) [
            | inl here ↦ subst (λ z. Contains (y ∷ rest.0) z) here (contains_head y rest.0)
            | inr later ↦ contains_later y rest.0 x ((rest.1 x).1 (later, h.1))
          ]),
        ),
      )
      | inr lacks ↦ (
        rest.0,
        λ x. (
          (λ h. (contains_later y xs x ((rest.1 x).0 h).0, ((rest.1 x).0 h).1)),
          (λ h. elim (contains_cases y xs x h.0) [
            | inl here ↦ absurd (lacks (subst (λ z. P z) (sym here) h.1))
            | inr later ↦ (rest.1 x).1 (later, h.1)
          ]),
        ),
      )
    ]

-- all but one
pub others : (w : Body) (xs : List Body) → (ys : List Body) × ((x : Body) → Contains ys x ↔ (Contains xs x × (x ≢ w)))
others w xs =
    selected (λ x. x ≢ w) (λ x. elim (body_settles x w) [ inl same ↦ inr (λ differ. differ same) | inr differ ↦ inl differ ]) xs

owned_settles : (bodies : List Body) (k : ConId) → IsOwned bodies k ⊎ (¬ IsOwned bodies k)
owned_settles [] k = inr (λ h. contains_none h.0 h.1)
owned_settles (b ∷ bs) k =
    elim (contains_settles con_settles b.owned k) [
      | inl here ↦ inl (b, contains_head b bs, here)
      | inr not_here ↦ elim (owned_settles bs k) [
        | inl later ↦ inl (later.0, contains_later b bs later.0 later.1, later.2)
        | inr not_later ↦ inr (λ h. elim (contains_cases b bs h.0 h.1) [
          | inl is ↦ not_here (subst (λ (z : Body). Contains z.owned k) (sym is) h.2)
          | inr later ↦ not_later (h.0, later, h.2)
        ])
      ]
    ]

-- kept bodies can be completed
completion : (g : Graph) (kept : List Body) → (family : List Body) × Completes g kept family
completion g kept =
    let free = selected (λ (e : Start). ¬ IsOwned kept e.number) (λ e. elim (owned_settles kept e.number) [ inl owned ↦ inr (λ not. not owned) | inr not ↦ inl not ]) (starts g) in (
      kept ++ map starting free.0,
      λ x. (
        (λ h. elim (Contains-append_cases kept (map starting free.0) x h) [
          | inl is_kept ↦ inl is_kept
          | inr starts ↦ (
              let found = mapped_from starting free.0 x starts in
              let was = (free.1 found.0).0 found.1 in
              inr (found.0, was.0, was.1, sym found.2))
        ]),
        (λ h. elim h [
          | inl is_kept ↦ Contains-append_left kept (map starting free.0) x is_kept
          | inr (e, e_in, not, is) ↦ subst (λ z. Contains (kept ++ map starting free.0) z) (sym is)
              (Contains-append_right kept (map starting free.0) (starting e) (contains_mapped starting free.0 e ((free.1 e).1 (e_in, not))))
        ]),
      ),
    )

pub same_start : (d e : Start) → starting d ≡ starting e → d.number ≡ e.number
same_start d e same = contains_one d.number e.number (subst (λ (z : Body). Contains z.owned e.number) (sym same) (contains_head e.number []))

-- one merge more
pub reach_then : (g : Graph) (f mid new : List Body) → Reach g f mid → Step g mid new → Reach g f new
reach_then g f mid new stays one = goes one stays
reach_then g f mid new (goes {mid = next} first rest) one = goes first (reach_then g next mid new rest one)

-- a step from a family with the same bodies
step_from_same : (g : Graph) (m f new : List Body) → SameBodies m f → Step g f new → Step g m new
step_from_same g m f new same one = record {
  merged = one.merged;
  can_merge = one.can_merge;
  among = λ x h. (same x).1 (one.among x h);
  replaces = λ x. (
    (λ h. elim ((one.replaces x).0 h) [ inl is ↦ inl is | inr stayed ↦ inr ((same x).1 stayed.0, stayed.1) ]),
    (λ h. elim h [ inl is ↦ (one.replaces x).1 (inl is) | inr stayed ↦ (one.replaces x).1 (inr ((same x).0 stayed.0, stayed.1)) ]),
  );
}

pub reached_then : (g : Graph) (f new : List Body) → IsReached g f → Step g f new → IsReached g new
reached_then g f new r one = record {
  reached_as = new;
  reach = reach_then g (initial_bodies g) r.reached_as new r.reach (step_from_same g r.reached_as f new r.same one);
  same = λ x. ((λ h. h), (λ h. h));
}

-- what may merge in the old graph may in the new one, where no element has become a line
pub can_carry : (old new : Graph) (merged : List Body) → ((x : Body) → Contains merged x → (e : Elem) → Contains x.elements e → IsLine new e → IsLine old e) → CanMerge old merged → CanMerge new merged
can_carry old new [] lines can = absurd can
can_carry old new (a ∷ []) lines can = absurd can
can_carry old new (a ∷ b ∷ []) lines can = can
can_carry old new (a ∷ b ∷ c ∷ []) lines (a_b, b_c, c_a, (p, q, r, t)) = (
  a_b,
  b_c,
  c_a,
  (
    p,
    q,
    r,
    record {
      a_shared = t.a_shared;
      b_shared = t.b_shared;
      c_shared = t.c_shared;
      differ = t.differ;
      not_all_lines = λ h. t.not_all_lines (
        lines a (contains_head a (b ∷ c ∷ [])) p t.a_shared.0 h.0,
        lines b (contains_later a (b ∷ c ∷ []) b (contains_head b (c ∷ []))) q t.b_shared.0 h.1,
        lines a (contains_head a (b ∷ c ∷ [])) r t.c_shared.1 h.2,
      );
    },
  ),
)
can_carry old new (a ∷ b ∷ c ∷ d ∷ rest) lines can = absurd can

-- whatever bodies of the family are kept, completed they are reached in the new graph
abbrev pub CanBeKept : Graph → Graph → List Body → Type 0
CanBeKept old new f = (kept completed : List Body) → AreAmong kept f → ((x : Body) → Contains kept x → CarriesOver old new x) → Completes new kept completed → IsReached new completed

module _ (old new : Graph) (rises : HasRisingEdges new) where
  -- of starting bodies nothing has to be done again
  starts_kept : CanBeKept old new (initial_bodies old)
  starts_kept kept completed among carries completes = record {
    reached_as = initial_bodies new;
    reach = stays;
    same = λ x. (
      (λ h. (
          let found = mapped_from starting (starts new) x h in
          elim (owned_settles kept found.0.number) [
            | inr not ↦ (completes x).1 (inr (found.0, found.1, not, sym found.2))
            | inl (y, y_in, y_k) ↦ (
                let was = mapped_from starting (starts old) y (among y y_in) in
                let was_id : was.0.number ≡ found.0.number = contains_one was.0.number found.0.number (subst (λ (z : Body). Contains z.owned found.0.number) (sym was.2) y_k) in
                let again = mapped_from starting (starts new) (starting was.0) ((carries y y_in).starts was.0 was.1 (subst (λ (z : Body). Contains z.owned was.0.number) was.2 (contains_head was.0.number []))) in
                let is : again.0 ≡ found.0 = start_at new rises again.0 found.0 again.1 found.1 (same_start again.0 was.0 again.2 ∙ was_id) in
                let x_is : y ≡ x = sym was.2 ∙ sym again.2 ∙ ap starting is ∙ found.2 in
                (completes x).1 (inl (subst (λ z. Contains kept z) x_is y_in)))
          ])),
      (λ h. elim ((completes x).0 h) [
        | inr (e, e_in, not, is) ↦ subst (λ z. Contains (initial_bodies new) z) (sym is) (contains_mapped starting (starts new) e e_in)
        | inl is_kept ↦ (
            let was = mapped_from starting (starts old) x (among x is_kept) in
            subst (λ z. Contains (initial_bodies new) z) was.2
            ((carries x is_kept).starts was.0 was.1 (subst (λ (z : Body). Contains z.owned was.0.number) was.2 (contains_head was.0.number []))))
      ]),
    );
  }

  module _ (f after : List Body) (m : Step old f after) (before : CanBeKept old new f) where
    -- where the merged one is not kept, the merge is left out
    left_out : (kept completed : List Body) → ¬ Contains kept (join_all m.merged) → AreAmong kept after → ((x : Body) → Contains kept x → CarriesOver old new x) → Completes new kept completed → IsReached new completed
    left_out kept completed not among carries completes =
        before kept completed (λ x h. elim ((m.replaces x).0 (among x h)) [
          | inl is ↦ absurd (not (subst (λ z. Contains kept z) is h))
          | inr stayed ↦ stayed.0
        ]) carries completes

    -- where it is kept, keep what made it, and merge that
    done_again : (kept completed : List Body) → Contains kept (join_all m.merged) → AreAmong kept after → ((x : Body) → Contains kept x → CarriesOver old new x) → Completes new kept completed → IsReached new completed
    done_again kept completed whole_in among carries completes =
        let whole = join_all m.merged in
        let beside = others whole kept in
        let parts = m.merged ++ beside.0 in
        let part : (x : Body) → Contains parts x → Contains m.merged x ⊎ (Contains kept x × (x ≢ whole)) = λ x h. elim (Contains-append_cases m.merged beside.0 x h) [
          | inl merged ↦ inl merged
          | inr rest ↦ inr ((beside.1 x).0 rest)
        ] in
        let still : (x : Body) → Contains kept x → x ≢ whole → Contains f x × (¬ Contains m.merged x) = λ x x_in differ. elim ((m.replaces x).0 (among x x_in)) [
          | inl is ↦ absurd (differ is)
          | inr stayed ↦ stayed
        ] in
        let beside_in : (x : Body) → Contains kept x → x ≢ whole → Contains parts x = λ x x_in differ. Contains-append_right m.merged beside.0 x ((beside.1 x).1 (x_in, differ)) in
        let owned_too : (k : ConId) → IsOwned parts k → IsOwned kept k = λ k h. elim (part h.0 h.1) [
          | inl merged ↦ (whole, whole_in, (each_within m.merged h.0 merged).owned k h.2)
          | inr rest ↦ (h.0, rest.0, h.2)
        ] in
        let owned_before : (k : ConId) → IsOwned kept k → IsOwned parts k = λ k h. elim (body_settles h.0 whole) [
          | inr differ ↦ (h.0, beside_in h.0 h.1 differ, h.2)
          | inl same ↦ (
              let owner = owner_of m.merged k (subst (λ (z : Body). Contains z.owned k) same h.2) in
              (owner.0, Contains-append_left m.merged beside.0 owner.0 owner.1, owner.2))
        ] in
        let made = completion new parts in
        let reached = before parts made.0
        (λ x h. elim (part x h) [ inl merged ↦ m.among x merged | inr rest ↦ (still x rest.0 rest.1).0 ])
        (λ x h. elim (part x h) [
          | inr rest ↦ carries x rest.0
          | inl merged ↦ record {
            starts = λ e e_in k. (carries whole whole_in).starts e e_in ((each_within m.merged x merged).owned e.number k);
            lines = λ e e_in. (carries whole whole_in).lines e ((each_within m.merged x merged).elements e e_in);
          }
        ])
        made.1 in
        reached_then new made.0 completed reached (record {
          merged = m.merged;
          can_merge = can_carry old new m.merged (λ x h e e_in. (carries whole whole_in).lines e ((each_within m.merged x h).elements e e_in)) m.can_merge;
          among = λ x h. (made.1 x).1 (inl (Contains-append_left m.merged beside.0 x h));
          replaces = λ x. (
            (λ h. elim ((completes x).0 h) [
              | inl kept_in ↦ elim (body_settles x whole) [
                | inl same ↦ inl same
                | inr differ ↦ inr ((made.1 x).1 (inl (beside_in x kept_in differ)), (still x kept_in differ).1)
              ]
              | inr (e, e_in, not, is) ↦ inr (
                (made.1 x).1 (inr (e, e_in, (λ owned. not (owned_too e.number owned)), is)),
                λ merged. not (whole, whole_in, (each_within m.merged x merged).owned e.number (subst (λ (z : Body). Contains z.owned e.number) (sym is) (contains_head e.number []))),
              )
            ]),
            (λ h. elim h [
              | inl is ↦ (completes x).1 (inl (subst (λ z. Contains kept z) (sym is) whole_in))
              | inr (in_made, not_merged) ↦ elim ((made.1 x).0 in_made) [
                | inl in_parts ↦ elim (part x in_parts) [
                  | inl merged ↦ absurd (not_merged merged)
                  | inr rest ↦ (completes x).1 (inl rest.0)
                ]
                | inr (e, e_in, not, is) ↦ (completes x).1 (inr (e, e_in, (λ owned. not (owned_before e.number owned)), is))
              ]
            ]),
          );
        })

  step_kept : (f after : List Body) → Step old f after → CanBeKept old new f → CanBeKept old new after
  step_kept f after m before kept completed among carries completes =
      elim (contains_settles body_settles kept (join_all m.merged)) [
        | inl is_in ↦ done_again f after m before kept completed is_in among carries completes
        | inr not ↦ left_out f after m before kept completed not among carries completes
      ]

pub kept_is_reached : (old new : Graph) (f kept completed : List Body) → HasRisingEdges new → IsReached old f → AreAmong kept f → ((x : Body) → Contains kept x → CarriesOver old new x) → Completes new kept completed → IsReached new completed
kept_is_reached old new f kept completed rises r among carries completes =
    kept_along old (CanBeKept old new) (step_kept old new rises) (initial_bodies old) r.reached_as r.reach (starts_kept old new rises)
    kept completed (λ x h. (r.same x).1 (among x h)) carries completes
