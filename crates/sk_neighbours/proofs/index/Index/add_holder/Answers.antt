use Rattle.std.proofs.Common.{◌∙◌, ap, subst, sym, inl, inr, [], ◌∷◌, ◌++◌}
use Rattle.std.specs.Prelude.{Contains}
use Rattle.sk_base.specs.declared.Elem.{Elem}
use Rattle.sk_base.specs.Numbering.{elem_exact}
use Rattle.sk_neighbours.proofs.Holding.{key_added, get_set_same, get_set_other, grown_from}
use Rattle.sk_neighbours.specs.Indexed.{keys_in}
use Rattle.sk_neighbours.proofs.index.Index.add_holder.Goals as goal

pub returns-clause-holders : goal.returns-clause-holders
returns-clause-holders c e k =
    let stays = c.in_ok-make_room.ensures.holders e in
    let added = key_added c.make_room.new.self.holders.items c.args.elem.0 c.in_ok-make_room.ensures.room c.args.key c.push.new.self
    (c.in_ok-push.ensures.ok ∙ ap (λ l. l ++ c.args.key ∷ []) (grown_from c.make_room.new.self.holders.items c.args.elem.0 c.index_mut.result.now c.in_ok-make_room.ensures.room c.index_mut.ensures.value)) e.0 k in (
      (λ h. elim (added.0 h) [ inl old ↦ inl (subst (λ l. Contains l k) stays old) | inr (same, is) ↦ inr (elem_exact e c.args.elem same, is) ]),
      (λ h. added.1 (elim h [ inl old ↦ inl (subst (λ l. Contains l k) (sym stays) old) | inr (same, is) ↦ inr (ap (λ (x : Elem). x.0) same, is) ])),
    )

pub returns-clause-here : goal.returns-clause-here
returns-clause-here c =
    ap keys_in (get_set_same c.make_room.new.self.holders.items c.args.elem.0 c.push.new.self c.in_ok-make_room.ensures.room)
    ∙ c.in_ok-push.ensures.ok ∙ ap (λ l. l ++ c.args.key ∷ []) (grown_from c.make_room.new.self.holders.items c.args.elem.0 c.index_mut.result.now c.in_ok-make_room.ensures.room c.index_mut.ensures.value)
    ∙ ap (λ l. l ++ c.args.key ∷ []) (c.in_ok-make_room.ensures.holders c.args.elem)

pub returns-clause-others : goal.returns-clause-others
returns-clause-others c e other =
    ap keys_in (get_set_other c.make_room.new.self.holders.items c.args.elem.0 c.push.new.self e.0 (λ same. other (elem_exact e c.args.elem same))) ∙ c.in_ok-make_room.ensures.holders e
