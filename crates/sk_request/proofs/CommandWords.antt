-- Each command has its own word.
use Rattle.std.proofs.Common.{◌≡◌, ◌==◌, ◌<◌, ◌+◌, ℕ, List, ◌∷◌, refl, sym, ap, ◌∙◌, arith}
use Rattle.std.specs.Prelude.{if◌then◌else◌, fold, Option, None, Some, Contains, true, false}
use Rattle.sk_request.specs.declared.command.Account.TheVariants as accounts
use Rattle.sk_request.specs.declared.command.Command.{Command}
use Rattle.sk_request.specs.declared.command.Command.TheVariants.{Tell, Plan, Solve, Dxf, Offers, Session, Grow, Verify, Flips, Live, Complete, Measure}
use Rattle.sk_request.specs.Commands.{command_word, commands, without_size}
use Rattle.sk_request.specs.Asking.{traits, makes, size_in}

-- words with different first letters differ
pub other_letter : (c d : ℕ) (xs ys : List ℕ) → c < d → c ∷ xs ≡ d ∷ ys → ⊥
other_letter c d xs ys below same = let first : c ≡ d = cc in omega (arith, below, first)

-- the command whose word's letters add up to that
abbrev by_letters : ℕ → Command
by_letters n =
    if n == 510 then Tell accounts.Judged else (if n == 427 then Plan else (if n == 553 then Solve else (if n == 322 then Dxf else (if n == 645 then Offers else (if n == 772 then Session else (
    if n == 447 then Grow 0 else (if n == 745 then Tell accounts.Migrated else (if n == 661 then Verify else (if n == 539 then Tell accounts.Spares else (
    if n == 542 then Flips else (if n == 554 then Tell accounts.Shapes else (if n == 432 then Live else (if n == 651 then Tell accounts.Excesses else (
    if n == 857 then Complete else (if n == 754 then Measure else (if n == 344 then Tell accounts.Reasons else Tell accounts.Derived))))))))))))))))

abbrev letters : List ℕ → ℕ
letters word = fold (λ n c. n + c) 0 word

by_word : (c : Command) → by_letters (letters (command_word c)) ≡ without_size c
by_word (Tell accounts.Judged) = refl
by_word (Tell accounts.Migrated) = refl
by_word (Tell accounts.Spares) = refl
by_word (Tell accounts.Derived) = refl
by_word (Tell accounts.Shapes) = refl
by_word (Tell accounts.Excesses) = refl
by_word (Tell accounts.Reasons) = refl
by_word Plan = refl
by_word Solve = refl
by_word Dxf = refl
by_word Offers = refl
by_word Session = refl
by_word (Grow n) = refl
by_word Verify = refl
by_word Flips = refl
by_word Live = refl
by_word Complete = refl
by_word Measure = refl

-- each is listed
pub command_listed : (c : Command) → Contains commands (without_size c)
command_listed (Tell accounts.Judged) = (0, omega arith, refl)
command_listed Plan = (1, omega arith, refl)
command_listed Solve = (2, omega arith, refl)
command_listed Dxf = (3, omega arith, refl)
command_listed Offers = (4, omega arith, refl)
command_listed Session = (5, omega arith, refl)
command_listed (Grow n) = (6, omega arith, refl)
command_listed (Tell accounts.Migrated) = (7, omega arith, refl)
command_listed Verify = (8, omega arith, refl)
command_listed (Tell accounts.Spares) = (9, omega arith, refl)
command_listed Flips = (10, omega arith, refl)
command_listed (Tell accounts.Derived) = (11, omega arith, refl)
command_listed (Tell accounts.Shapes) = (12, omega arith, refl)
command_listed Live = (13, omega arith, refl)
command_listed (Tell accounts.Excesses) = (14, omega arith, refl)
command_listed Complete = (15, omega arith, refl)
command_listed Measure = (16, omega arith, refl)
command_listed (Tell accounts.Reasons) = (17, omega arith, refl)

-- a word names a command but for its size
pub one_without_size : (c d : Command) → command_word c ≡ command_word d → without_size c ≡ without_size d
one_without_size c d same = sym (by_word c) ∙ ap (λ word. by_letters (letters word)) same ∙ by_word d

-- what doesn't hang on the size
pub word_without_size : (c : Command) → command_word (without_size c) ≡ command_word c
word_without_size (Grow n) = refl
word_without_size c = refl

pub traits_without_size : (c : Command) → traits (without_size c) ≡ traits c
traits_without_size (Grow n) = refl
traits_without_size c = refl

pub same_traits : (c d : Command) → command_word c ≡ command_word d → traits c ≡ traits d
same_traits c d same = sym (traits_without_size c) ∙ ap traits (one_without_size c d same) ∙ traits_without_size d

-- a command by its name and its size
abbrev grown : Option ℕ → Command
grown None = Grow 0
grown (Some n) = Grow n

abbrev with_size : Command → Option ℕ → Command
with_size (Grow m) size = grown size
with_size c size = c

whole : (c : Command) → with_size (without_size c) (size_in c) ≡ c
whole (Grow n) = refl
whole c = refl

pub one_command : (c d : Command) → command_word c ≡ command_word d → size_in c ≡ size_in d → c ≡ d
one_command c d same size =
    sym (whole c) ∙ ap (λ e. with_size e (size_in c)) (one_without_size c d same) ∙ ap (λ s. with_size (without_size d) s) size ∙ whole d

-- a command has a size exactly where it makes its sketch
pub unmade_size : (c : Command) → makes c ≡ false → size_in c ≡ None
unmade_size (Grow n) no_size = cc
unmade_size c no_size = refl

pub made_size : (c : Command) → makes c ≡ true → (n : ℕ) × (c ≡ Grow n)
made_size (Grow n) made = (n, refl)
made_size c made = cc
