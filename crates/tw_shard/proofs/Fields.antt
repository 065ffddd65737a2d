-- The fields of a shard once one of its routers has changed.
use Rattle.std.proofs.Common.{◌≡◌, ℕ, ◌≤◌, ◌==◌, true, List, [], ◌∷◌, ◌++◌, get_or, length, set, take, refl, ap, sym, ◌∙◌, subst, nat_le}
use Rattle.std.specs.List.{AllByRecursion}
use Rattle.std.proofs.lemmas.Bool.{and_parts, eqb-true}
use Rattle.tw_event.specs.declared.event.Event.{Event}
use Rattle.tw_event.specs.Order.{event_before, event_same}
use Rattle.tw_model.specs.declared.limits.TheConstants.{LATEST}
use Rattle.tw_model.specs.Effect.{body_suits, fits, suits}
use Rattle.tw_model.specs.Net.{Net}
use Rattle.tw_shard.specs.declared.shard.Shard.TheInside.{Inside}
use Rattle.tw_shard.specs.Inside.{HasHandledTo, IsShard, shard_of, terms_of}
use Rattle.tw_shard.specs.Shard.{IsSoundShard, Shard, Terms, no_timeline, owns, place, timeline}
use Rattle.tw_shard.specs.Timeline.{Timeline, history}
use Rattle.tw_shard.proofs.Latest.{latest_changed}
use Rattle.tw_shard.proofs.Shares.{changed, whole_after}
use Rattle.tw_sim.specs.Rising.{IsRising}

take_front : {A : Type 0} (ws ys : List A) → take (length ws) (ws ++ ys) ≡ ws
take_front [] ys = refl
take_front (w ∷ ws) ys = ap (λ l. w ∷ l) (take_front ws ys)

-- a vector with as many other items has these
pub other_items : {A : Type 0} (n : ℕ) (ws ys : List A) → length ws ≡ n → take n (ws ++ ys) ≡ ws
other_items n ws ys h = subst (λ k. take k (ws ++ ys) ≡ ws) h (take_front ws ys)

-- an event that fits a router suits its receiver, which is that router
pub fits_home : (net : Net) (v : ℕ) (e : Event) → fits net v e ≡ true → e.dst ≡ v
fits_home net v e h =
    eqb-true e.dst v (and_parts (e.dst == v) (body_suits net v e e.body) (and_parts (nat_le e.time LATEST) (suits net v e) h).1).0

pub fits_suits : (net : Net) (v : ℕ) (e : Event) → fits net v e ≡ true → suits net e.dst e ≡ true
fits_suits net v e h =
    subst (λ w. suits net w e ≡ true) (sym (fits_home net v e h)) (and_parts (nat_le e.time LATEST) (suits net v e) h).1

-- the timeline that is read at a router's place is the router's
pub read_here : (a : Inside) (x : Shard) (r k : ℕ) (lines : List Timeline) → shard_of a ≡ x → k ≡ place x r → lines ≡ a.timelines.items → get_or lines k no_timeline ≡ timeline x r
read_here a x r k lines is at all = (λ i. get_or (all i) (at i) no_timeline) ∙ ap (λ (s : Shard). get_or s.timelines (place x r) no_timeline) is

-- b has another timeline of router r, and perhaps another list of what is pending, what is sent and what is held
pub record IsChanged (a b : Inside) (r : ℕ) (t : Timeline) : Type 0 where
  pub terms : terms_of b ≡ terms_of a
  pub roster : b.roster ≡ a.roster
  pub timelines : b.timelines.items ≡ set a.timelines.items (place (shard_of a) r) t
  pub kept : b.kept.events ≡ a.kept.events
  pub bound : b.bound ≡ a.bound
  pub pending_routers : b.pending.routers ≡ a.pending.routers
  pub kept_routers : b.kept.routers ≡ a.kept.routers
  pub held_routers : b.held.routers ≡ a.held.routers

changed_is : (a b : Inside) (r : ℕ) (t : Timeline) → IsChanged a b r t → changed (shard_of a) r t b.pending.events b.outgoing.items b.held.events ≡ shard_of b
changed_is a b r t h = λ i. record {
  terms = sym h.terms i;
  routers = (sym h.roster i).routers;
  timelines = sym h.timelines i;
  pending = b.pending.events;
  kept = sym h.kept i;
  outgoing = b.outgoing.items;
  held = b.held.events;
  bound = sym h.bound i;
}

pub changed_shard : (a b : Inside) (r : ℕ) (t : Timeline) → IsShard a → owns (shard_of a) r ≡ true → IsChanged a b r t
    → t.net ≡ (shard_of a).terms.case.net → t.node ≡ r → t.done ≤ a.bound → t.case ≡ (shard_of a).terms.case → t.retains ≡ (shard_of a).terms.retains
    → AllByRecursion (λ e. suits (shard_of a).terms.case.net e.dst e ≡ true) b.pending.events
    → IsRising event_before event_same b.held.events → a.latest ≤ b.latest → AllByRecursion (λ (e : Event). e.time ≤ b.latest) (history t) → IsShard b
changed_shard a b r t is mine h net node done case retains suit rising later until = record {
  whole = subst IsSoundShard (changed_is a b r t h) (whole_after (shard_of a) r t b.pending.events b.outgoing.items b.held.events is.whole mine net node done case retains suit rising);
  roster = ap (λ x. x.count) h.roster ∙ (is.roster ∙ ap (λ (x : Terms). x.case.net.nodes) (sym h.terms));
  pending = h.pending_routers ∙ (is.pending ∙ ap (λ (x : Terms). x.case.net.nodes) (sym h.terms));
  kept = h.kept_routers ∙ (is.kept ∙ ap (λ (x : Terms). x.case.net.nodes) (sym h.terms));
  held = h.held_routers ∙ (is.held ∙ ap (λ (x : Terms). x.case.net.nodes) (sym h.terms));
  latest =
      subst (HasHandledTo b.latest) (changed_is a b r t h)
      (latest_changed (shard_of a) r t b.pending.events b.outgoing.items b.held.events is.whole mine a.latest b.latest later is.latest until);
}
