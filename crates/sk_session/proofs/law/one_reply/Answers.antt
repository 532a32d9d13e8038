use Rattle.sk_lines.specs.declared.Version.TheVariants.{Two}
use Rattle.sk_session.proofs.OneReply.{one_reply}
use Rattle.sk_session.proofs.law.one_reply.Goals as goal

pub returns : goal.returns
returns c = one_reply (c.one_entry.ensures.one Two)
