-- Names that compare as equal are the same.
use Rattle.std.proofs.Common.{◌≡◌, ap, sym, Equal}
use Rattle.std.specs.Cmp.{ranked}
use Rattle.sk_base.specs.declared.name.Name.{Name}
use Rattle.sk_base.specs.declared.name.Name.TheVariants.{Con, Step}
use Rattle.sk_base.specs.contracts.name.NameOrd.TheImpl as names

pub same_name : (m n : Name) → names.ghosts.cmp m n ≡ Equal → m ≡ n
same_name (Con j) (Con k) e = ap Con (ranked j k Equal (sym e))
same_name (Con j) (Step k) e = absurd (cc)
same_name (Step j) (Con k) e = absurd (cc)
same_name (Step j) (Step k) e = ap Step (ranked j k Equal (sym e))
