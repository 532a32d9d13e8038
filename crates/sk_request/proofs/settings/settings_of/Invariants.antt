use Rattle.std.proofs.Common.{take}
use Rattle.std.specs.Prelude.{map, string_bytes}
use Rattle.sk_request.specs.Settings.{AreSet}
use Rattle.sk_request.proofs.settings.settings_of.Given as goal

abbrev pub invariant-loop-word : goal.invariant-loop-word
invariant-loop-word l = AreSet l.command (map string_bytes (take l.word-index l.words)) l.settings
