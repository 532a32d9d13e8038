-- The words of commands.
use Rattle.std.specs.Prelude.{ℕ, List, [], ◌∷◌, ◌++◌, map, codes}
use Rattle.std.specs.List.{join_with_byte}
use Rattle.sk_request.specs.declared.command.Account.{Account}
use Rattle.sk_request.specs.declared.command.Account.TheVariants as accounts
use Rattle.sk_request.specs.declared.command.Command.{Command}
use Rattle.sk_request.specs.declared.command.Command.TheVariants.{Tell, Plan, Solve, Dxf, Offers, Session, Grow, Verify, Flips, Live, Complete, Measure}

abbrev pub account_word : Account → List ℕ
account_word accounts.Judged = codes "check"
account_word accounts.Migrated = codes "migrate"
account_word accounts.Spares = codes "spare"
account_word accounts.Derived = codes "derive"
account_word accounts.Shapes = codes "parts"
account_word accounts.Excesses = codes "excess"
account_word accounts.Reasons = codes "why"

abbrev pub command_word : Command → List ℕ
command_word (Tell account) = account_word account
command_word Plan = codes "plan"
command_word Solve = codes "solve"
command_word Dxf = codes "dxf"
command_word Offers = codes "offers"
command_word Session = codes "session"
command_word (Grow n) = codes "grow"
command_word Verify = codes "verify"
command_word Flips = codes "flips"
command_word Live = codes "live"
command_word Complete = codes "complete"
command_word Measure = codes "measure"

-- a command without its size
abbrev pub without_size : Command → Command
without_size (Grow n) = Grow 0
without_size command = command

-- all commands without their sizes, in the order of the usage line
abbrev pub commands : List Command
commands =
    Tell accounts.Judged ∷ Plan ∷ Solve ∷ Dxf ∷ Offers ∷ Session ∷ Grow 0 ∷ Tell accounts.Migrated ∷ Verify ∷ Tell accounts.Spares ∷ Flips ∷ Tell accounts.Derived ∷ Tell accounts.Shapes ∷ Live
    ∷ Tell accounts.Excesses ∷ Complete ∷ Measure ∷ Tell accounts.Reasons ∷ []

-- how a call is spelled: the word of a command, a bar between two, and the keys, each with its values
abbrev pub usage_line : List ℕ
usage_line =
    codes "usage: sketch "
    ++ (join_with_byte 124 (map command_word commands)
    ++ codes " [order=first|last|0..65535] [bits=16|27|38] [within=1..1000000] [place=boxes|points] [frame=base|drawn] [n=3..1000]\n")
