use Rattle.std.proofs.Common.{arith, ap, length, map, subst, ◌∙◌}
use Rattle.std.proofs.lemmas.List.{get_or_default}
use Rattle.tw_event.specs.declared.event.PathNo.{PathNo}
use Rattle.tw_instance.specs.Chains.{AreRows, first_node}
use Rattle.tw_instance.specs.Extensions.{ArePlacesOf, places_in}
use Rattle.tw_instance.specs.Firsts.{AreFirsts}
use Rattle.tw_instance.proofs.Extending.{has_extensions}
use Rattle.tw_instance.proofs.extensions.Extensions.new.Goals as goal

pub new-requires-clause-within : goal.new-requires-clause-within
new-requires-clause-within c k d low =
    let rests = c.in_ok-rests_of.field-0.items in
    let so = c.in_ok-rests_of.ensures.rests in
    let long = so.long in
    let q : PathNo = record { 0 = k } in
    let within = (so.each q (omega arith)).within in
    let same = get_or_default rests k d 0 low in
    omega arith

pub returns : goal.returns
returns c =
    let rests = c.in_ok-rests_of.field-0.items in
    let rows = subst (λ xs. AreRows xs (length xs) c.in_ok-starts.starts.items c.in_ok-starts.numbers.items) c.in_ok-chains.ensures c.in_ok-starts.ensures in
    has_extensions c.args.instance.now rests (record { starts = c.in_ok-starts.starts; extensions = c.in_ok-extensions.extensions; numbers = c.in_ok-starts.numbers; firsts = c.in_ok-firsts.firsts }) c.in_ok-rests_of.ensures.rests rows
    (c.in_ok-extensions.ensures.nodes ∙ ap (map (first_node c.args.instance.now)) c.deref.ensures.value)
    (subst (λ qs. ArePlacesOf c.args.instance.now qs (places_in c.in_ok-extensions.extensions.items)) c.deref.ensures.value c.in_ok-extensions.ensures.places)
    (subst (λ ss. AreFirsts ss c.in_ok-extensions.extensions.items c.in_ok-firsts.firsts.items) c.deref-2.ensures.value
    (subst (λ es. AreFirsts c.deref-2.result.now es c.in_ok-firsts.firsts.items) c.deref-3.ensures.value c.in_ok-firsts.ensures))
