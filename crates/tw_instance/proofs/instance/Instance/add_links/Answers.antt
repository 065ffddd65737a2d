use Rattle.std.proofs.Common.{◌+◌, [], ◌∷◌, ◌++◌, get_or, drop, take, ap, refl, subst, sym, ◌∙◌, append_assoc}
use Rattle.std.proofs.lemmas.List.{at_drop_all, at_drop_more, take_more}
use Rattle.tw_model.specs.declared.net.Link.{Link as ALink}
use Rattle.tw_model.specs.Net.{Net}
use Rattle.tw_model.specs.Rules.{link_fault}
use Rattle.tw_instance.specs.Build.{judged_links}
use Rattle.tw_instance.specs.declared.refusal.Item.TheVariants.{Link}
use Rattle.tw_instance.proofs.Told.{Covers, covers_after, covers_end, covers_here}
use Rattle.tw_instance.proofs.instance.Instance.add_links.Goals as goal

abbrev none : ALink
none = record { first = 0; second = 0; delay = 0; back = 0 }

pub returns-in-Err-clause-told : goal.returns-in-Err-clause-told
returns-in-Err-clause-told c =
    let i = c.loop-i.i in
    let links = c.args.links.now in
    let net = c.loop-i.self in
    let next = at_drop_more (judged_links net (i + 1)) links i none c.loop-i-test.true in
    covers_here _ _ _ (link_fault net (get_or links i none)) (Link (i + 1)) c.in-Err.fault _ refl c.loop-i.invariant.covers next c.in-Err.ensures.rule refl

pub returns-clause-told : goal.returns-clause-told
returns-clause-told c =
    covers_end _ _ c.loop-i.invariant.covers (at_drop_all (judged_links c.loop-i.self (c.loop-i.i + 1)) c.args.links.now c.loop-i.i c.loop-i-test.false)

pub loop-i-preserved : goal.loop-i-preserved
loop-i-preserved c =
    let i = c.loop-i.i in
    let links = c.args.links.now in
    let net = c.loop-i.self in
    let l = get_or links i none in
    let next = at_drop_more (judged_links net (i + 1)) links i none c.loop-i-test.true in
    let later = covers_after _ _ _ (link_fault net l) (Link (i + 1)) c.loop-i.invariant.covers next c.in_default.ensures.kept in
    let grown = append_assoc c.args.self.now.links (take i links) (l ∷ []) ∙ ap (λ ls. c.args.self.now.links ++ ls) (sym (take_more links i none c.loop-i-test.true)) in
    record {
      taken = c.in_default.ensures.ok ∙ (ap (λ (n : Net). record n { links = n.links ++ l ∷ [] }) c.loop-i.invariant.taken ∙ ap (λ ls. record c.args.self.now { links = ls }) grown);
      covers = subst (λ n. Covers (judged_links n (i + 1 + 1) (drop (i + 1) links)) (judged_links c.args.self.now 1 links)) (sym c.in_default.ensures.ok) later;
    }
