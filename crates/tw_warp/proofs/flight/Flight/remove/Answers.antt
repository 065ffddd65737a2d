use Rattle.std.proofs.Common.{◌++◌, ◌+◌, ◌<◌, ◌≤◌, length, remove, take, ap, sym, ◌∙◌, subst, arith}
use Rattle.tw_warp.specs.Flight.{IsPlaceIn, all_of}
use Rattle.tw_warp.proofs.InChunks.{taken_behind, taken_out}
use Rattle.tw_warp.proofs.flight.Flight.remove.Goals as goal

pub returns-then-spot-len : goal.returns-then-spot-len
returns-then-spot-len c =
    let inside = c.self.inside in
    let spot = c.find-spot.result in
    let chunks = c.deref.ensures.value in
    let within : spot.chunk < length inside.earlier.items = (let more = c.if-spot-len.true in let count = c.len.ensures in let fits = inside.earlier.ok.0 in omega arith) in
    let there = subst (λ cs. IsPlaceIn cs spot.chunk spot.index) chunks c.find-spot.ensures.within in
    ap (λ xs. xs ++ inside.recent.items) (c.join-then-spot-len.ensures ∙ c.join.ensures)
    ∙ (taken_out inside.earlier.items inside.recent.items spot.chunk spot.index c.args.index c.index_mut.result.now c.remove.new.self
    (ap (λ cs. length (all_of (take spot.chunk cs)) + spot.index) (sym chunks) ∙ c.find-spot.ensures.before) within (there c.index_mut.result.now within)
    (c.remove.ensures.items ∙ ap (λ v. remove v.items spot.index) c.index_mut.ensures.value)
    ∙ ap (λ xs. remove xs c.args.index) c.self.view_is)

pub returns-else-spot-len : goal.returns-else-spot-len
returns-else-spot-len c =
    let inside = c.self.inside in
    let spot = c.find-spot.result in
    let chunks = c.deref.ensures.value in
    let beyond : length inside.earlier.items ≤ spot.chunk = (let past = c.if-spot-len.false in let count = c.len.ensures in let fits = inside.earlier.ok.0 in omega arith) in
    ap (λ xs. all_of inside.earlier.items ++ xs) c.remove-else-spot-len.ensures.items
    ∙ (taken_behind inside.earlier.items inside.recent.items spot.chunk spot.index c.args.index
    (ap (λ cs. length (all_of (take spot.chunk cs)) + spot.index) (sym chunks) ∙ c.find-spot.ensures.before) beyond
    ∙ ap (λ xs. remove xs c.args.index) c.self.view_is)
