-- The first words of entries, and what stands behind each.
use Rattle.std.specs.Prelude.{ℕ, zero, suc, ◌/◌, max, min, Bool, true, false, List, [], ◌∷◌, Option, Some, None, codes, bytes_eq, if◌then◌else◌}
use Rattle.sk_lines.specs.declared.keyword.Keyword.{Keyword}
use Rattle.sk_lines.specs.declared.keyword.Keyword.TheVariants.{Point, Line, Circle, Distance, On, Tangent, Outside, Inside, Angle, Block}
use Rattle.sk_lines.specs.declared.version.Version.{Version}
use Rattle.sk_lines.specs.declared.version.Version.TheVariants.{One, Two}

-- what a word behind the first one stands for
pub data Place : Type 0 where
  NewName : Place
  UsedName : Place
  Coordinate : Place
  Length : Place
  Ratio : Place

-- the keyword that a word is in each version
abbrev pub shared_keyword : List ℕ → Option Keyword
shared_keyword word =
    if bytes_eq word (codes "point") then Some Point else
    if bytes_eq word (codes "line") then Some Line else
    if bytes_eq word (codes "circle") then Some Circle else
    if bytes_eq word (codes "distance") then Some Distance else
    if bytes_eq word (codes "on") then Some On else
    if bytes_eq word (codes "tangent") then Some Tangent else
    if bytes_eq word (codes "outside") then Some Outside else
    if bytes_eq word (codes "inside") then Some Inside else
    if bytes_eq word (codes "angle") then Some Angle else None

-- the keyword that a word is; version 2 has `block` too
abbrev pub keyword_of : Version → List ℕ → Option Keyword
keyword_of One word = shared_keyword word
keyword_of Two word = if bytes_eq word (codes "block") then Some Block else shared_keyword word

-- so many times a name and a place
abbrev pub pin_places : ℕ → List Place
pin_places zero = []
pin_places (suc n) = UsedName ∷ Coordinate ∷ Coordinate ∷ pin_places n

-- how many pins so many words are: at least two, and at most sixteen
abbrev pub pin_count : ℕ → ℕ
pin_count count = max 2 (min 16 (count / 3))

-- what stands behind a first word, where so many words do
abbrev pub places : Keyword → ℕ → List Place
places Point count = NewName ∷ Coordinate ∷ Coordinate ∷ []
places Line count = NewName ∷ Coordinate ∷ Coordinate ∷ Coordinate ∷ Coordinate ∷ []
places Circle count = NewName ∷ Coordinate ∷ Coordinate ∷ Length ∷ []
places Distance count = UsedName ∷ UsedName ∷ Length ∷ []
places On count = UsedName ∷ UsedName ∷ []
places Tangent count = UsedName ∷ UsedName ∷ []
places Outside count = UsedName ∷ UsedName ∷ []
places Inside count = UsedName ∷ UsedName ∷ []
places Angle count = UsedName ∷ UsedName ∷ Ratio ∷ []
places Block count = pin_places (pin_count count)

-- whether the line declares an element
abbrev pub declares : Keyword → Bool
declares Point = true
declares Line = true
declares Circle = true
declares _ = false
