-- What a line without a code says, by its words.
use Rattle.std.proofs.Common.{◌≡◌, ℕ, Bool, true, false, cond, List, [], ◌∷◌, Option, Some, None, is_some, refl, sym, subst, ap}
use Rattle.sk_base.specs.declared.Elem.{Elem}
use Rattle.sk_base.specs.declared.ConId.{ConId}
use Rattle.sk_base.specs.declared.Shape.{Shape}
use Rattle.sk_base.specs.declared.Rule.{Rule}
use Rattle.sk_base.specs.declared.Element.{Element}
use Rattle.sk_base.specs.declared.Constraint.{Constraint}
use Rattle.sk_base.specs.declared.Sketch.{Sketch}
use Rattle.sk_lines.specs.declared.Version.{Version}
use Rattle.sk_lines.specs.declared.Keyword.{Keyword}
use Rattle.sk_entry.specs.declared.entry.Entry.{Entry}
use Rattle.sk_entry.specs.declared.entry.Entry.TheVariants as entry
use Rattle.sk_lines.specs.Comments.{words_under}
use Rattle.sk_lines.specs.Keywords.{keyword_of, declares}
use Rattle.sk_entry.specs.Meaning.{shape_drawn, rule_asked, element_with, constraint_with, entry_made}
use Rattle.sk_entry.specs.Entry.{IsOther, IsKeywordEntry, IsEntryOfWords, IsEntryOf, StandsOn, IsNumbered}

-- an element with its number, or a constraint with its own, and nothing else
abbrev IsMade : Elem → ConId → Entry → Type 0
IsMade elem con (entry.Element e) = e.number ≡ elem
IsMade elem con (entry.Constraint c) = c.number ≡ con
IsMade elem con _ = ⊥

element_numbered : (elem : Elem) (con : ConId) (name : List ℕ) (shape : Option Shape) (said : Entry) → element_with elem name shape ≡ Some said → IsMade elem con said
element_numbered elem con name None said is = absurd (cc)
element_numbered elem con name (Some shape) (entry.Element e) is = (let same : e ≡ record { number = elem; label = name; shape = shape } = cc in ap (λ (x : Element). x.number) same)
element_numbered elem con name (Some shape) (entry.Constraint c) is = absurd (cc)
element_numbered elem con name (Some shape) entry.Blank is = absurd (cc)
element_numbered elem con name (Some shape) (entry.Other words) is = absurd (cc)

constraint_numbered : (elem : Elem) (con : ConId) (rule : Option Rule) (said : Entry) → constraint_with con rule ≡ Some said → IsMade elem con said
constraint_numbered elem con None said is = absurd (cc)
constraint_numbered elem con (Some rule) (entry.Constraint c) is = (let same : c ≡ record { number = con; rule = rule } = cc in ap (λ (x : Constraint). x.number) same)
constraint_numbered elem con (Some rule) (entry.Element e) is = absurd (cc)
constraint_numbered elem con (Some rule) entry.Blank is = absurd (cc)
constraint_numbered elem con (Some rule) (entry.Other words) is = absurd (cc)

made_numbered : (s : Sketch) (k : Keyword) (rest : List (List ℕ)) (elem : Elem) (con : ConId) (said : Entry) → entry_made s k rest elem con ≡ Some said → IsMade elem con said
made_numbered s k [] elem con said is = absurd (cc)
made_numbered s k (first ∷ rest) elem con said is = told (declares k) is
  where
    told : (t : Bool) → cond t (element_with elem first (shape_drawn k rest)) (constraint_with con (rule_asked s k (first ∷ rest))) ≡ Some said → IsMade elem con said
    told true is = element_numbered elem con first (shape_drawn k rest) said is
    told false is = constraint_numbered elem con (rule_asked s k (first ∷ rest)) said is

-- what is made of a keyword's line stands on it
stands_made : (v : Version) (line first : List ℕ) (rest : List (List ℕ)) (elem : Elem) (con : ConId) (x : Entry) → words_under v line ≡ first ∷ rest → is_some (keyword_of v first) ≡ true → IsMade elem con x → StandsOn v line x
stands_made v line first rest elem con (entry.Element e) words keyword made = record { first = first; rest = rest; words = words; keyword = keyword }
stands_made v line first rest elem con (entry.Constraint c) words keyword made = record { first = first; rest = rest; words = words; keyword = keyword }
stands_made v line first rest elem con entry.Blank words keyword made = absurd made
stands_made v line first rest elem con (entry.Other ws) words keyword made = absurd made

stands_other : (v : Version) (line first : List ℕ) (rest : List (List ℕ)) (x : Entry) → words_under v line ≡ first ∷ rest → is_some (keyword_of v first) ≡ false → IsOther v line x → StandsOn v line x
stands_other v line first rest (entry.Other ws) words keyword other = (record { first = first; rest = rest; words = words; keyword = keyword }, other)
stands_other v line first rest (entry.Element e) words keyword other = absurd other
stands_other v line first rest (entry.Constraint c) words keyword other = absurd other
stands_other v line first rest entry.Blank words keyword other = absurd other

pub stands_on : (v : Version) (s : Sketch) (line : List ℕ) (elem : Elem) (con : ConId) (x : Entry) → IsEntryOf v s line elem con x → StandsOn v line x
stands_on v s line elem con x is = by (words_under v line) refl is
  where
    by : (ws : List (List ℕ)) → words_under v line ≡ ws → IsEntryOfWords v s line ws elem con x → StandsOn v line x
    by [] words blank = subst (StandsOn v line) (sym blank) words
    by (first ∷ rest) words says = told (keyword_of v first) refl says
      where
        told : (o : Option Keyword) → keyword_of v first ≡ o → IsKeywordEntry v s line o rest elem con x → StandsOn v line x
        told None here other = stands_other v line first rest x words (ap is_some here) other
        told (Some k) here made = stands_made v line first rest elem con x words (ap is_some here) (made_numbered s k rest elem con x made)

number_made : (elem : Elem) (con : ConId) (x : Entry) → IsMade elem con x → IsNumbered elem con x
number_made elem con (entry.Element e) made = made
number_made elem con (entry.Constraint c) made = made
number_made elem con entry.Blank made = tt
number_made elem con (entry.Other ws) made = tt

number_other : (v : Version) (line : List ℕ) (elem : Elem) (con : ConId) (x : Entry) → IsOther v line x → IsNumbered elem con x
number_other v line elem con (entry.Other ws) other = tt
number_other v line elem con entry.Blank other = tt
number_other v line elem con (entry.Element e) other = absurd other
number_other v line elem con (entry.Constraint c) other = absurd other

pub is_numbered : (v : Version) (s : Sketch) (line : List ℕ) (elem : Elem) (con : ConId) (x : Entry) → IsEntryOf v s line elem con x → IsNumbered elem con x
is_numbered v s line elem con x is = by (words_under v line) is
  where
    told : (o : Option Keyword) (rest : List (List ℕ)) → IsKeywordEntry v s line o rest elem con x → IsNumbered elem con x
    told None rest other = number_other v line elem con x other
    told (Some k) rest made = number_made elem con x (made_numbered s k rest elem con x made)

    by : (ws : List (List ℕ)) → IsEntryOfWords v s line ws elem con x → IsNumbered elem con x
    by [] blank = subst (IsNumbered elem con) (sym blank) tt
    by (first ∷ rest) says = told (keyword_of v first) rest says
