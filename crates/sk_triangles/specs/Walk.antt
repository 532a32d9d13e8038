-- What the walk to all triangles finds, step by step. Each takes what is kept of three names.
use Rattle.std.specs.Prelude.{◌≡◌, ◌≢◌, ℕ, Bool, List, Contains}
use Rattle.sk_base.specs.declared.Elem.{Elem}
use Rattle.sk_base.specs.declared.Name.{Name}
use Rattle.sk_triangles.specs.declared.ends.End.{End}
use Rattle.sk_triangles.specs.Marks.{IsThird}
use Rattle.sk_triangles.specs.Ranks.{IsHigh, IsLower}

-- what is kept of the end's cluster and two others
abbrev pub JoinedBy : {M : Type 0} → (Name → Name → Name → M → Type 0) → Name → Name → End → M → Type 0
JoinedBy keeps p q x m = (p ≢ x.name) × (q ≢ x.name) × keeps x.name p q m

-- y goes on from where x leads, by another cluster, and its element makes a triangle
abbrev pub GoesOn : List Bool → End → End → Type 0
GoesOn lines x y = (y.name ≢ x.name) × IsThird lines x.corner x.elem y.elem

-- that of x, y and one of the highs at y's element
abbrev pub LastBy : {M : Type 0} → (Name → Name → Name → M → Type 0) → List Bool → List End → End → End → M → Type 0
LastBy keeps lines highs x y m = GoesOn lines x y × (z : End) × Contains highs z × (z.elem ≡ y.elem) × JoinedBy keeps x.name y.name z m

-- that of x, if it leads to a lower corner, and any end from there
abbrev pub DownBy : {M : Type 0} → (Name → Name → Name → M → Type 0) → List Bool → List ℕ → List End → List End → End → M → Type 0
DownBy keeps lines counts ends highs x m = IsLower counts x.elem x.corner × (y : End) × Contains ends y × (y.corner ≡ x.elem) × LastBy keeps lines highs x y m

-- that of x, with a high of its corner
abbrev pub Found : {M : Type 0} → (Name → Name → Name → M → Type 0) → List Bool → List ℕ → List End → End → M → Type 0
Found keeps lines counts ends x m =
    IsLower counts x.elem x.corner × (y : End) × Contains ends y × (y.corner ≡ x.elem) × GoesOn lines x y × (z : End) × Contains ends z × (z.corner ≡ x.corner) × IsHigh counts z × (z.elem ≡ y.elem) × JoinedBy keeps x.name y.name z m

-- that of any end that is seen from the corner
abbrev pub FoundFrom : {M : Type 0} → (Name → Name → Name → M → Type 0) → List Bool → List ℕ → List End → Elem → M → Type 0
FoundFrom keeps lines counts ends c m = (x : End) × Contains ends x × (x.corner ≡ c) × Found keeps lines counts ends x m
