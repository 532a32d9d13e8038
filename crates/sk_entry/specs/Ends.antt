-- The two elements that a constraint names.
use Rattle.std.specs.Prelude.{◌≡◌, ℕ, Bool, true, not, nat_le, List, [], ◌∷◌, ◌++◌, length, Some, bytes_eq}
use Rattle.std.specs.List.{list_any}
use Rattle.sk_base.specs.declared.Elem.{Elem}
use Rattle.sk_base.specs.declared.Rule.{Rule}
use Rattle.sk_base.specs.declared.Rule.TheVariants as rule
use Rattle.sk_base.specs.declared.Element.{Element}
use Rattle.sk_base.specs.declared.Sketch.{Sketch}
use Rattle.sk_base.specs.Labels.{is_name}
use Rattle.sk_lines.specs.declared.Keyword.{Keyword}
use Rattle.sk_lines.specs.declared.Keyword.TheVariants.{On, Tangent, Outside}
use Rattle.sk_lines.specs.declared.Code.{Code}
use Rattle.sk_lines.specs.declared.Code.TheVariants.{E4, E6, E7, E10, E14}
use Rattle.sk_lines.specs.Keywords.{UsedName}
use Rattle.sk_entry.specs.Kinds.{takes}
use Rattle.sk_entry.specs.Named.{element_named}
use Rattle.sk_entry.specs.Conditions.{Field, has_bad_name, is_unknown, kinds_fit}

-- both names, each in its place
abbrev pub both_names : List ℕ → List ℕ → List Field
both_names u v = (UsedName, u) ∷ (UsedName, v) ∷ []

-- the codes of both names and of the kinds of their elements, in their order
abbrev pub names_and_kinds_rows : Sketch → Keyword → List ℕ → List ℕ → List (Bool × Code)
names_and_kinds_rows s k u v =
    (list_any has_bad_name (both_names u v), E4) ∷
    (list_any (is_unknown s) (both_names u v), E6) ∷
    (not (kinds_fit k (element_named s u) (element_named s v)), E7) ∷ []

-- the names are those of the elements, whose kinds the constraint takes
pub record AreEnds (s : Sketch) (k : Keyword) (u v : List ℕ) (first second : Element) : Type 0 where
  pub u_name : is_name u ≡ true
  pub v_name : is_name v ≡ true
  pub u_is : element_named s u ≡ Some first
  pub v_is : element_named s v ≡ Some second
  pub fit : takes k first.shape second.shape ≡ true

-- a constraint of two names and nothing else, whose shapes need no further test
abbrev pub IsWithoutValue : Keyword → Type 0
IsWithoutValue On = Unit {0}
IsWithoutValue Tangent = Unit {0}
IsWithoutValue Outside = Unit {0}
IsWithoutValue _ = ⊥

-- the codes of such a constraint, in their order
abbrev pub pair_rows : Sketch → Keyword → List ℕ → List ℕ → List (Bool × Code)
pair_rows s k u v = names_and_kinds_rows s k u v ++ (bytes_eq u v, E10) ∷ (nat_le 4000 (length s.constraints), E14) ∷ []

-- what such a constraint asks of the two elements
abbrev pub pair_rule : Keyword → Elem → Elem → Rule
pair_rule Tangent u v = rule.Tangent u v
pair_rule Outside u v = rule.Outside u v
pair_rule _ u v = rule.On u v
