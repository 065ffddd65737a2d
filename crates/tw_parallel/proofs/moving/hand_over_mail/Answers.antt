use Rattle.std.proofs.Common.{◌≡◌, ℕ, ◌+◌, ◌++◌, ◌<◌, ◌≤◌, List, filter, get_or, length, set, ap, sym, ◌∙◌, subst, arith}
use Rattle.std.proofs.lemmas.List.{get_or-set_other, get_or-set_same, get_or_default, length-set}
use Rattle.tw_parallel.proofs.PutBack.{set_again}
use Rattle.tw_parallel.specs.Moving.{HasHanded, IsHanded}
use Rattle.tw_table.specs.declared.hand.Hand.{Hand}
use Rattle.tw_parallel.proofs.moving.hand_over_mail.Goals as goal

module _ (c : goal.After-drop-hands-2) (d : Hand) where
  abbrev hs : List Hand
  hs = c.args.hands.now

  abbrev end : List Hand
  end = set (set (set hs c.args.from c.replace-hand.new.dest) c.args.to c.pass_mail.new.to) c.args.from c.pass_mail.new.from

  source_is : c.replace-hand.result ≡ get_or hs c.args.from d
  source_is = c.replace-hand.ensures.value ∙ get_or_default hs c.args.from c.index-hands-from-2.result d c.requires.ends.from_within

  abbrev target : Hand
  target = get_or (set hs c.args.from c.replace-hand.new.dest) c.args.to c.index-hands-to.result

  target_is : target ≡ get_or hs c.args.to d
  target_is =
      (get_or-set_other hs c.args.from c.args.to c.replace-hand.new.dest c.index-hands-to.result (λ same. c.requires.ends.apart (sym same))
      ∙ get_or_default hs c.args.to c.index-hands-to.result d c.requires.ends.to_within)

  end_is : end ≡ set (set hs c.args.from c.pass_mail.new.from) c.args.to c.pass_mail.new.to
  end_is = set_again hs c.args.from c.args.to c.replace-hand.new.dest c.pass_mail.new.to c.pass_mail.new.from c.requires.ends.apart

  source_end : get_or end c.args.from d ≡ c.pass_mail.new.from
  source_end =
      ap (λ l. get_or l c.args.from d) end_is
      ∙ (get_or-set_other (set hs c.args.from c.pass_mail.new.from) c.args.to c.args.from c.pass_mail.new.to d c.requires.ends.apart
      ∙ get_or-set_same hs c.args.from c.pass_mail.new.from d c.requires.ends.from_within)

  target_end : get_or end c.args.to d ≡ c.pass_mail.new.to
  target_end =
      let within = c.requires.ends.to_within in
      let wide = length-set hs c.args.from c.pass_mail.new.from in
      ap (λ l. get_or l c.args.to d) end_is ∙ get_or-set_same (set hs c.args.from c.pass_mail.new.from) c.args.to c.pass_mail.new.to d (omega arith)

pub returns : goal.returns
returns c = λ d. record {
  handed = subst (λ h. IsHanded c.args.router h (get_or (hs c d) c.args.to d) (get_or (end c d) c.args.from d) (get_or (end c d) c.args.to d)) (source_is c d)
      (subst (λ k. IsHanded c.args.router c.replace-hand.result k (get_or (end c d) c.args.from d) (get_or (end c d) c.args.to d)) (target_is c d)
      (subst (λ h. IsHanded c.args.router c.replace-hand.result (target c d) h (get_or (end c d) c.args.to d)) (sym (source_end c d))
      (subst (IsHanded c.args.router c.replace-hand.result (target c d) c.pass_mail.new.from) (sym (target_end c d)) c.pass_mail.ensures)));
  rest = end_is c d ∙ (ap (λ h. set (set (hs c d) c.args.from h) c.args.to c.pass_mail.new.to) (sym (source_end c d))
      ∙ ap (set (set (hs c d) c.args.from (get_or (end c d) c.args.from d)) c.args.to) (sym (target_end c d)));
}
