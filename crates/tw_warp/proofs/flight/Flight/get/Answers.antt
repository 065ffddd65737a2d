use Rattle.std.proofs.Common.{◌+◌, ◌<◌, ◌≤◌, get_or, length, take, slice_get, ap, sym, ◌∙◌, subst}
use Rattle.tw_warp.specs.Flight.{IsPlaceIn, all_of}
use Rattle.tw_warp.proofs.InChunks.{found, found_behind}
use Rattle.tw_warp.proofs.flight.Flight.get.Goals as goal

pub returns-in-Some : goal.returns-in-Some
returns-in-Some c =
    let inside = c.self.inside in
    let spot = c.find-spot.result in
    let chunk = c.in-Some.chunk.now in
    let chunks = c.deref.ensures.value in
    let lookup = c.in-Some.ensures.lookup in
    let within : spot.chunk < length inside.earlier.items = subst (λ cs. spot.chunk < length cs) c.deref-2.ensures.value lookup.3.0 in
    let there = subst (λ cs. IsPlaceIn cs spot.chunk spot.index) chunks c.find-spot.ensures.within chunk within in
    let read = lookup.1 ∙ ap (λ cs. get_or cs spot.chunk chunk) c.deref-2.ensures.value in
    c.pick.ensures
    ∙ (ap (λ xs. slice_get xs spot.index) (c.deref-in-Some.ensures.value ∙ ap (λ v. v.items) read)
    ∙ (sym (found inside.earlier.items inside.recent.items spot.chunk spot.index c.args.index chunk
    (ap (λ cs. length (all_of (take spot.chunk cs)) + spot.index) (sym chunks) ∙ c.find-spot.ensures.before) within there)
    ∙ ap (λ xs. slice_get xs c.args.index) c.self.view_is))

pub returns-in-None : goal.returns-in-None
returns-in-None c =
    let inside = c.self.inside in
    let spot = c.find-spot.result in
    let chunks = c.deref.ensures.value in
    let beyond : length inside.earlier.items ≤ spot.chunk = subst (λ cs. length cs ≤ spot.chunk) c.deref-2.ensures.value c.in-None.ensures.lookup.3 in
    c.pick-in-None.ensures
    ∙ (ap (λ xs. slice_get xs spot.index) c.deref-in-None.ensures.value
    ∙ (sym (found_behind inside.earlier.items inside.recent.items spot.chunk spot.index c.args.index
    (ap (λ cs. length (all_of (take spot.chunk cs)) + spot.index) (sym chunks) ∙ c.find-spot.ensures.before) beyond)
    ∙ ap (λ xs. slice_get xs c.args.index) c.self.view_is))
