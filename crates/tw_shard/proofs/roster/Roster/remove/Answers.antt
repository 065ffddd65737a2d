use Rattle.std.proofs.Common.{◌≡◌, ◌<◌, ◌≤◌, ◌-◌, ℕ, List, Some, true, length, get_or, set, slice_get, take, ap, sym, subst, ◌∙◌, arith}
use Rattle.std.specs.List.{swap_remove}
use Rattle.std.proofs.lemmas.List.{get_or_default, length-set}
use Rattle.std.proofs.lemmas.Option.{get_or_from_slice_get, slice_get_within}
use Rattle.tw_shard.specs.declared.roster.Roster.TheInside.{Inside}
use Rattle.tw_shard.specs.Roster.{IsIndexed, IsTableOf, IsWithout, Roster, StandsInList, has, place_in, roster_of}
use Rattle.tw_shard.proofs.Rosters.{moved_known, noted_place, stands, table_moved, table_shorter, without_of}
use Rattle.tw_shard.proofs.roster.Roster.remove.Goals as goal

module _ (a : Inside) (x : Roster) (r : ℕ) (is : roster_of a ≡ x) (t : IsIndexed a) (own : has x.routers r ≡ true) where
  abbrev rs : List ℕ
  rs = a.routers.items

  here : has rs r ≡ true
  here = ap (λ x. has x.routers r) is ∙ own

  noted : slice_get a.places.items r ≡ Some (place_in rs r)
  noted = noted_place rs a.places.items t r here

  known : r < a.places.len
  known = subst (λ n. r < n) (sym a.places.ok.0) (slice_get_within a.places.items r _ noted)

  module _ (p : ℕ) (read : p ≡ get_or a.places.items r p) where
    at : p ≡ place_in rs r
    at = read ∙ get_or_from_slice_get a.places.items r (place_in rs r) p noted

    there : StandsInList rs p r
    there = subst (λ p. StandsInList rs p r) (sym at) (stands rs r here)

    at_now : p ≡ place_in x.routers r
    at_now = at ∙ ap (λ x. place_in x.routers r) is

    within_now : p < length x.routers
    within_now = subst (λ x. p < length x.routers) is there.within

    module _ (qs : List ℕ) (less : IsWithout ℕ 0 p rs qs) where
      less_here : IsWithout ℕ 0 (place_in rs r) rs qs
      less_here = subst (λ p. IsWithout ℕ 0 p rs qs) at less

      less_now : IsWithout ℕ 0 (place_in x.routers r) x.routers qs
      less_now = subst (λ x. IsWithout ℕ 0 (place_in x.routers r) x.routers qs) is less_here

      shorter : length qs ≤ p → IsTableOf qs (set a.places.items r 4294967295)
      shorter last = table_shorter rs a.places.items qs r t here less_here (subst (λ p. length qs ≤ p) at last)

      inside : p < length qs → (m : ℕ) → m ≡ get_or qs p m → m < a.places.len
      inside within m moved =
          let first = moved_known rs a.places.items qs r t here less_here (subst (λ p. p < length qs) at within) in
          let same : m ≡ get_or qs (place_in rs r) 0 = moved ∙ (get_or_default qs p m 0 within ∙ ap (λ p. get_or qs p 0) at) in
          let long = length-set a.places.items r 4294967295 in
          let many = a.places.ok.0 in
          let below = subst (λ m. m < length (set a.places.items r 4294967295)) (sym same) first in
          omega arith

      changed : p < length qs → (m : ℕ) → m ≡ get_or qs p m → IsTableOf qs (set (set a.places.items r 4294967295) m p)
      changed within m moved =
          let same : m ≡ get_or qs (place_in rs r) 0 = moved ∙ (get_or_default qs p m 0 within ∙ ap (λ p. get_or qs p 0) at) in
          subst (λ p. IsTableOf qs (set (set a.places.items r 4294967295) m p)) (sym at)
          (table_moved rs a.places.items qs r t here less_here (subst (λ p. p < length qs) at within) m same)

    removed : (qs : List ℕ) (z : ℕ) → qs ≡ swap_remove rs p z → qs ≡ swap_remove x.routers (place_in x.routers r) r
    removed qs z got =
        let within = there.within in
        got ∙ (ap (λ y. take (length rs - 1) (set rs p y)) (get_or_default rs (length rs - 1) z r (omega arith))
        ∙ (ap (λ p. swap_remove rs p r) at ∙ ap (λ x. swap_remove x.routers (place_in x.routers r) r) is))

pub index-noted-requires : goal.index-noted-requires
index-noted-requires c = known c.self.inside c.args.self.now c.args.router c.self.view_is c.self.invariant c.requires

pub swap_remove-requires : goal.swap_remove-requires
swap_remove-requires c =
    let a = c.self.inside in
    subst (λ n. c.index-noted.result.now < n) (sym a.routers.ok.0)
    (there a c.args.self.now c.args.router c.self.view_is c.self.invariant c.requires c.index-noted.result.now c.index-noted.ensures).within

pub index_mut-requires : goal.index_mut-requires
index_mut-requires c = known c.self.inside c.args.self.now c.args.router c.self.view_is c.self.invariant c.requires

pub index_mut-requires-then-place-len : goal.index_mut-requires-then-place-len
index_mut-requires-then-place-len c =
    let a = c.self.inside in
    let v = c.swap_remove.new.self in
    let p = c.index-noted.result.now in
    let less = without_of 0 a.routers.items v.items p a.routers.len v.len a.routers.ok.0 v.ok.0 c.swap_remove.ensures.len c.swap_remove.ensures.by_index.0 c.swap_remove.ensures.by_index.1 in
    inside a c.args.self.now c.args.router c.self.view_is c.self.invariant c.requires p c.index-noted.ensures v.items less
    (subst (λ n. p < n) (c.len.ensures ∙ v.ok.0) c.if-place-len.true) c.index-moved.result.now c.index-moved.ensures

pub invariant_of-self : goal.invariant_of-self
invariant_of-self c =
    let a = c.self.inside in
    let v = c.swap_remove.new.self in
    let p = c.index-noted.result.now in
    let less = without_of 0 a.routers.items v.items p a.routers.len v.len a.routers.ok.0 v.ok.0 c.swap_remove.ensures.len c.swap_remove.ensures.by_index.0 c.swap_remove.ensures.by_index.1 in
    changed a c.args.self.now c.args.router c.self.view_is c.self.invariant c.requires p c.index-noted.ensures v.items less
    (subst (λ n. p < n) (c.len.ensures ∙ v.ok.0) c.if-place-len.true) c.index-moved.result.now c.index-moved.ensures

pub invariant_of-self-else-place-len : goal.invariant_of-self-else-place-len
invariant_of-self-else-place-len c =
    let a = c.self.inside in
    let v = c.swap_remove.new.self in
    let p = c.index-noted.result.now in
    let less = without_of 0 a.routers.items v.items p a.routers.len v.len a.routers.ok.0 v.ok.0 c.swap_remove.ensures.len c.swap_remove.ensures.by_index.0 c.swap_remove.ensures.by_index.1 in
    shorter a c.args.self.now c.args.router c.self.view_is c.self.invariant c.requires p c.index-noted.ensures v.items less
    (subst (λ n. n ≤ p) (c.len.ensures ∙ v.ok.0) c.if-place-len.false)

pub returns-then-place-len-clause-place : goal.returns-then-place-len-clause-place
returns-then-place-len-clause-place c = at_now c.self.inside c.args.self.now c.args.router c.self.view_is c.self.invariant c.requires c.index-noted.result.now c.index-noted.ensures

pub returns-then-place-len-clause-routers : goal.returns-then-place-len-clause-routers
returns-then-place-len-clause-routers c =
    removed c.self.inside c.args.self.now c.args.router c.self.view_is c.self.invariant c.requires c.index-noted.result.now c.index-noted.ensures
    c.swap_remove.new.self.items c.swap_remove.result c.swap_remove.ensures.items

pub returns-else-place-len-clause-place : goal.returns-else-place-len-clause-place
returns-else-place-len-clause-place c = at_now c.self.inside c.args.self.now c.args.router c.self.view_is c.self.invariant c.requires c.index-noted.result.now c.index-noted.ensures

pub returns-else-place-len-clause-routers : goal.returns-else-place-len-clause-routers
returns-else-place-len-clause-routers c =
    removed c.self.inside c.args.self.now c.args.router c.self.view_is c.self.invariant c.requires c.index-noted.result.now c.index-noted.ensures
    c.swap_remove.new.self.items c.swap_remove.result c.swap_remove.ensures.items

pub returns-then-place-len-clause-less : goal.returns-then-place-len-clause-less
returns-then-place-len-clause-less c =
    let a = c.self.inside in
    let v = c.swap_remove.new.self in
    let p = c.index-noted.result.now in
    let less = without_of 0 a.routers.items v.items p a.routers.len v.len a.routers.ok.0 v.ok.0 c.swap_remove.ensures.len c.swap_remove.ensures.by_index.0 c.swap_remove.ensures.by_index.1 in
    less_now a c.args.self.now c.args.router c.self.view_is c.self.invariant c.requires p c.index-noted.ensures v.items less

pub returns-else-place-len-clause-less : goal.returns-else-place-len-clause-less
returns-else-place-len-clause-less c =
    let a = c.self.inside in
    let v = c.swap_remove.new.self in
    let p = c.index-noted.result.now in
    let less = without_of 0 a.routers.items v.items p a.routers.len v.len a.routers.ok.0 v.ok.0 c.swap_remove.ensures.len c.swap_remove.ensures.by_index.0 c.swap_remove.ensures.by_index.1 in
    less_now a c.args.self.now c.args.router c.self.view_is c.self.invariant c.requires p c.index-noted.ensures v.items less

pub returns-then-place-len-clause-within : goal.returns-then-place-len-clause-within
returns-then-place-len-clause-within c = within_now c.self.inside c.args.self.now c.args.router c.self.view_is c.self.invariant c.requires c.index-noted.result.now c.index-noted.ensures

pub returns-else-place-len-clause-within : goal.returns-else-place-len-clause-within
returns-else-place-len-clause-within c = within_now c.self.inside c.args.self.now c.args.router c.self.view_is c.self.invariant c.requires c.index-noted.result.now c.index-noted.ensures
