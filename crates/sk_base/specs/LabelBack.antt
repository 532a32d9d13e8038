-- A label gives its fields back.
use Rattle.std.proofs.Common.{◌≡◌, ℕ, ◌-◌, ◌≤◌, List, ◌++◌, length, take, drop, replicate, IsTrue, refl, sym, arith, length-append}
use Rattle.std.proofs.lemmas.List.{length-take-le, drop-replicate, length-replicate}
use Rattle.std.proofs.Math.Seq.{take-append_seam}
use Rattle.sk_base.specs.Labels.{is_name}
use Rattle.sk_base.specs.Padded.{IsPaddedName}
use Rattle.sk_base.specs.declared.label.Label.TheInside.{Inside}

pub unpadded : (label : Inside) → IsPaddedName label.bytes label.len → (let name = take label.len label.bytes in let back : Inside = record { bytes = name ++ replicate (16 - length name) 0; len = length name } in back ≡ label)
unpadded label padded =
    let bytes = label.bytes in
    let len_is : length (take label.len bytes) ≡ label.len = length-take-le label.len bytes (omega (arith, padded.size, padded.fits)) in
    rw len_is (rw (sym padded.zeros) refl)

pub padded : (name : List ℕ) → length name ≤ 16 → IsTrue (is_name name) → IsPaddedName (name ++ drop (length name) (replicate 16 0)) (length name)
padded name short is = record {
  size = simp (length-append, drop-replicate, length-replicate) (omega arith);
  fits = short;
  name = rw take-append_seam is;
  zeros = rw (take-append_seam, drop-replicate) refl;
}
