-- What the steps of a share keep, whatever stands beside it.
use Rattle.std.proofs.Common.{◌≡◌, ℕ, ◌+◌, ◌-◌, ◌≤◌, List, [], ◌∷◌, ◌++◌, append_assoc, Some, Result, Ok, Err, OnErr, OnOk, length, map, set, slice_get, take, refl, ap, sym, ◌∙◌, subst, arith}
use Rattle.std.proofs.lemmas.List.{append-nil}
use Rattle.std.specs.declared.cmp.Ordering.{Ordering}
use Rattle.tw_core.proofs.Counts.{antimessages-append, messages-append}
use Rattle.tw_core.specs.Machine.{antimessages, messages}
use Rattle.tw_process.specs.Behaviour.{Behaviour, simulation_of}
use Rattle.tw_process.specs.Parts.{Parts}
use Rattle.tw_rounds.proofs.Lists.{get_among, last_is, map_set, set_among, set_same, within}
use Rattle.tw_rounds.proofs.Stages.{may_turn_at, one_begun, one_kept, one_kept_aside, one_met, one_received, one_sent, one_sent_on, one_told, reordered, sound_at, would_sound}
use Rattle.tw_rounds.specs.Members.{IsSound, KeepsTo, Mailed, handed, raised, sent_on, taken_out}
use Rattle.tw_rounds.specs.Ruled.{AreRuled}
use Rattle.tw_rounds.specs.Shares.{GoesOn, IsLast, IsShare, KeepsRule, RuledAmong}
use Rattle.tw_rounds.specs.declared.turning.Round.{Round}
use Rattle.tw_rule.proofs.Places.{get_map}
use Rattle.tw_sim.specs.declared.machine.Signed.{Signed}
use Rattle.tw_sim.specs.Simulation.{Simulation}

-- what a process has to send on, of several
pub outbox_at : {M E : Type 0} (xs ys : List (Mailed M E)) (i : ℕ) (x y : Mailed M E) → map (λ z. z.outbox) ys ≡ map (λ z. z.outbox) xs → slice_get xs i ≡ Some x → slice_get ys i ≡ Some y → y.outbox ≡ x.outbox
outbox_at xs ys i x y same at to =
    let a = get_map (λ (z : Mailed _ _). z.outbox) xs i x at in
    let b = get_map (λ (z : Mailed _ _). z.outbox) ys i y to in
    let c : slice_get (map (λ (z : Mailed _ _). z.outbox) xs) i ≡ Some y.outbox = subst (λ zs. slice_get zs i ≡ Some y.outbox) same b in
    cc

module _ {S M E : Type 0} (parts : Parts E) (cmp : E → E → Ordering) (behaviour : M → Behaviour S E) (round : Round) (start : ℕ) where
  abbrev sim : M → Simulation S E
  sim model = simulation_of parts cmp (behaviour model)

  abbrev Goes : List (Mailed M E) → List (Signed E) → List (Mailed M E) → List (Signed E) → Type 0
  Goes = GoesOn parts cmp behaviour round start

  abbrev Share : List (Mailed M E) → List (Signed E) → Type 0
  Share = IsShare parts cmp behaviour round start

  -- ---- one step and then another

  pub goes_same : (xs : List (Mailed M E)) (sent : List (Signed E)) → Goes xs sent xs sent
  goes_same xs sent = record { outboxes = refl; rule = λ model front back others from ruled. ruled }

  pub goes_both : (xs ys zs : List (Mailed M E)) (f g h : List (Signed E)) → Goes xs f ys g → Goes ys g zs h → Goes xs f zs h
  goes_both xs ys zs f g h first second = record {
    outboxes = second.outboxes ∙ first.outboxes;
    rule = λ model front back others from ruled. second.rule model front back others from (first.rule model front back others from ruled);
  }

  pub still_share : (xs ys : List (Mailed M E)) (f g : List (Signed E)) → Share xs f → KeepsRule parts cmp behaviour round start xs f ys g → Share ys g
  still_share xs ys f g share rule = record {
    model = share.model;
    front = share.front;
    back = share.back;
    others = share.others;
    from = share.from;
    limit = share.limit;
    early = share.early;
    ruled = rule share.model share.front share.back share.others share.from share.ruled;
  }

  -- ---- a process of a share

  module _ (xs : List (Mailed M E)) (i : ℕ) (x : Mailed M E) (at : slice_get xs i ≡ Some x) where
    -- it stands among all
    there : (front back : List (Mailed M E)) → length front ≡ start → slice_get (front ++ xs ++ back) (start + i) ≡ Some x
    there front back from = subst (λ n. slice_get (front ++ xs ++ back) (n + i) ≡ Some x) from (get_among front xs back i x at)

    replaced : (front back : List (Mailed M E)) (y : Mailed M E) → length front ≡ start → set (front ++ xs ++ back) (start + i) y ≡ front ++ set xs i y ++ back
    replaced front back y from = subst (λ n. set (front ++ xs ++ back) (n + i) y ≡ front ++ set xs i y ++ back) from (set_among front xs back i y (within xs i x at))

    -- it becomes another, with what is on its way
    becomes : (f g : List (Signed E)) (y : Mailed M E)
        → ((model : M) (front back : List (Mailed M E)) (others : List (Signed E)) → length front ≡ start → RuledAmong parts cmp behaviour round start model front back others xs f
        → AreRuled (sim model) model round.stop round.bound (others ++ g) (set (front ++ xs ++ back) (start + i) y)) → KeepsRule parts cmp behaviour round start xs f (set xs i y) g
    becomes f g y h model front back others from ruled =
        subst (AreRuled (sim model) model round.stop round.bound (others ++ g)) (replaced front back y from) (h model front back others from ruled)

    same_outboxes : (y : Mailed M E) → y.outbox ≡ x.outbox → map (λ z. z.outbox) (set xs i y) ≡ map (λ z. z.outbox) xs
    same_outboxes y same =
        sym (map_set (λ (z : Mailed M E). z.outbox) xs i y)
        ∙ (ap (set (map (λ (z : Mailed M E). z.outbox) xs) i) same ∙ set_same (map (λ (z : Mailed M E). z.outbox) xs) i x.outbox (get_map (λ (z : Mailed M E). z.outbox) xs i x at))

    -- its model is that of all
    model_of : (model : M) (front back : List (Mailed M E)) (others f : List (Signed E)) → length front ≡ start → RuledAmong parts cmp behaviour round start model front back others xs f → x.process.model ≡ model
    model_of model front back others f from ruled = (ruled.each (start + i) x (there front back from)).1

    -- its number is its place among all
    number_of : (model : M) (front back : List (Mailed M E)) (others f : List (Signed E)) → length front ≡ start → RuledAmong parts cmp behaviour round start model front back others xs f → x.process.number ≡ start + i
    number_of model front back others f from ruled = (ruled.each (start + i) x (there front back from)).0

    -- ---- what its calls ask for

    pub early_at : (f : List (Signed E)) → Share xs f → round.limit ≤ (behaviour x.process.model).latest
    early_at f share =
        let same = model_of share.model share.front share.back share.others f share.from share.ruled in
        let limit = share.limit in
        let early = share.early in
        subst (λ md. round.limit ≤ (behaviour md).latest) (sym same) (omega arith)

    pub is_sound : (f : List (Signed E)) → Share xs f → IsSound (sim x.process.model) round.stop x
    is_sound f share =
        subst (λ md. IsSound (sim md) round.stop x) (sym (model_of share.model share.front share.back share.others f share.from share.ruled))
        (sound_at (sim share.model) share.model round.stop round.bound (share.others ++ f) (share.front ++ xs ++ share.back) share.ruled (start + i) x (there share.front share.back share.from))

    pub may_begin : (f : List (Signed E)) → Share xs f → IsSound (sim x.process.model) round.stop (raised round.bound x)
    may_begin f share =
        subst (λ md. IsSound (sim md) round.stop (raised round.bound x)) (sym (model_of share.model share.front share.back share.others f share.from share.ruled))
        (may_turn_at (sim share.model) share.model round.stop round.bound (share.others ++ f) (share.front ++ xs ++ share.back) share.ruled (start + i) x (there share.front share.back share.from))

    pub may_receive : (f : List (Signed E)) (s : Signed E) → parts.dst s.event ≡ start + i → Share xs (f ++ s ∷ []) → IsSound (sim x.process.model) round.stop (handed s x)
    may_receive f s own share =
        subst (λ md. IsSound (sim md) round.stop (handed s x)) (sym (model_of share.model share.front share.back share.others (f ++ s ∷ []) share.from share.ruled))
        (would_sound (sim share.model) share.model round.stop round.bound (share.front ++ xs ++ share.back) (share.others ++ f) s
        (subst (λ fs. AreRuled (sim share.model) share.model round.stop round.bound fs (share.front ++ xs ++ share.back)) (sym (append_assoc share.others f (s ∷ []))) share.ruled)
        (start + i) x x (there share.front share.back share.from) own)

    -- ---- what its calls keep

    -- it has begun the round
    pub begun : (f : List (Signed E)) (y : Mailed M E) → y.outbox ≡ x.outbox → KeepsTo (sim x.process.model) 0 (raised round.bound x) y → Goes xs f (set xs i y) f
    begun f y same keeps = record {
      outboxes = same_outboxes y same;
      rule = becomes f f y (λ model front back others from ruled.
          let is = model_of model front back others f from ruled in
          let at_all = there front back from in
          one_begun (sim model) model round.stop round.bound (others ++ f) (front ++ xs ++ back) ruled (start + i) x y at_all
          (subst (λ md. KeepsTo (sim md) 0 (raised round.bound x) y) is keeps round.stop (omega arith)
          (may_turn_at (sim model) model round.stop round.bound (others ++ f) (front ++ xs ++ back) ruled (start + i) x at_all)));
    }

    -- it has done what a call keeps that handles nothing at or after the limit
    pub advanced : (f : List (Signed E)) (y : Mailed M E) → round.limit ≤ round.stop → y.outbox ≡ x.outbox → KeepsTo (sim x.process.model) round.limit x y → Goes xs f (set xs i y) f
    advanced f y le same keeps = record {
      outboxes = same_outboxes y same;
      rule = becomes f f y (λ model front back others from ruled.
          let is = model_of model front back others f from ruled in
          let at_all = there front back from in
          one_kept (sim model) model round.stop round.bound (others ++ f) (front ++ xs ++ back) ruled (start + i) x y at_all
          (subst (λ md. KeepsTo (sim md) round.limit x y) is keeps round.stop le
          (sound_at (sim model) model round.stop round.bound (others ++ f) (front ++ xs ++ back) ruled (start + i) x at_all)));
    }

    -- it has received a message that is on its way
    pub received : (f : List (Signed E)) (s : Signed E) (y : Mailed M E) → parts.dst s.event ≡ start + i → y.outbox ≡ x.outbox → KeepsTo (sim x.process.model) 0 (handed s x) y
        → Goes xs (f ++ s ∷ []) (set xs i y) f
    received f s y own same keeps = record {
      outboxes = same_outboxes y same;
      rule = becomes (f ++ s ∷ []) f y (λ model front back others from ruled.
          let is = model_of model front back others (f ++ s ∷ []) from ruled in
          let at_all = there front back from in
          let apart = subst (λ fs. AreRuled (sim model) model round.stop round.bound fs (front ++ xs ++ back)) (sym (append_assoc others f (s ∷ []))) ruled in
          one_received (sim model) model round.stop round.bound (front ++ xs ++ back) (others ++ f) s apart (start + i) x y at_all own
          (subst (λ md. KeepsTo (sim md) 0 (handed s x) y) is keeps round.stop (omega arith)
          (would_sound (sim model) model round.stop round.bound (front ++ xs ++ back) (others ++ f) s apart (start + i) x y at_all own)));
    }

    -- or there was no memory for it
    pub met : (f : List (Signed E)) (s : Signed E) (y : Mailed M E) → parts.dst s.event ≡ start + i → y.outbox ≡ x.outbox → KeepsTo (sim x.process.model) 0 (handed s x) (handed s y)
        → Goes xs (f ++ s ∷ []) (set xs i y) (f ++ s ∷ [])
    met f s y own same keeps = record {
      outboxes = same_outboxes y same;
      rule = becomes (f ++ s ∷ []) (f ++ s ∷ []) y (λ model front back others from ruled.
          let is = model_of model front back others (f ++ s ∷ []) from ruled in
          let at_all = there front back from in
          let apart = subst (λ fs. AreRuled (sim model) model round.stop round.bound fs (front ++ xs ++ back)) (sym (append_assoc others f (s ∷ []))) ruled in
          subst (λ fs. AreRuled (sim model) model round.stop round.bound fs (set (front ++ xs ++ back) (start + i) y)) (append_assoc others f (s ∷ []))
          (one_met (sim model) model round.stop round.bound (front ++ xs ++ back) (others ++ f) s apart (start + i) x y at_all own
          (subst (λ md. KeepsTo (sim md) 0 (handed s x) (handed s y)) is keeps round.stop (omega arith)
          (would_sound (sim model) model round.stop round.bound (front ++ xs ++ back) (others ++ f) s apart (start + i) x y at_all own))));
    }

    -- what it has sent is on its way
    sent_all : (f : List (Signed E)) → Goes xs f (set xs i (taken_out x)) (f ++ x.process.flight)
    sent_all f = record {
      outboxes = same_outboxes (taken_out x) refl;
      rule = becomes f (f ++ x.process.flight) (taken_out x) (λ model front back others from ruled.
          subst (λ fs. AreRuled (sim model) model round.stop round.bound fs (set (front ++ xs ++ back) (start + i) (taken_out x))) (append_assoc others f x.process.flight)
          (one_sent (sim model) model round.stop round.bound (others ++ f) (front ++ xs ++ back) ruled (start + i) x (there front back from)));
    }

    -- or nothing has changed
    unchanged : (f : List (Signed E)) → Goes xs f (set xs i x) f
    unchanged f = subst (λ zs. Goes xs f zs f) (sym (set_same xs i x at)) (goes_same xs f)

    pub sends : {T F : Type 0} (r : Result T F) (y : Mailed M E) (far near out : List (Signed E)) → OnOk r (y ≡ taken_out x) → OnOk r (out ≡ near ++ x.process.flight) → OnErr r (y ≡ x) → OnErr r (out ≡ near)
        → Goes xs (far ++ near) (set xs i y) (far ++ out)
    sends (Ok u) y far near out ok sent err unsent =
        subst (λ fs. Goes xs (far ++ near) (set xs i y) (far ++ fs)) (sym sent)
        (subst (λ z. Goes xs (far ++ near) (set xs i z) (far ++ (near ++ x.process.flight))) (sym ok)
        (subst (Goes xs (far ++ near) (set xs i (taken_out x))) (append_assoc far near x.process.flight) (sent_all (far ++ near))))
    sends (Err u) y far near out ok sent err unsent =
        subst (λ fs. Goes xs (far ++ near) (set xs i y) (far ++ fs)) (sym unsent)
        (subst (λ z. Goes xs (far ++ near) (set xs i z) (far ++ near)) (sym err) (unchanged (far ++ near)))

    -- it tells a time
    pub told : (t : ℕ) → KeepsRule parts cmp behaviour round start xs [] (set xs i (record x { least = t })) []
    told t = becomes [] [] (record x { least = t }) (λ model front back others from ruled.
        one_told (sim model) model round.stop round.bound (others ++ []) (front ++ xs ++ back) ruled (start + i) x (there front back from) t)

    -- what it has to send on is on its way
    pub taken : KeepsRule parts cmp behaviour round start xs [] (set xs i (sent_on x)) x.outbox
    taken = becomes [] x.outbox (sent_on x) (λ model front back others from ruled.
        subst (λ fs. AreRuled (sim model) model round.stop round.bound (fs ++ x.outbox) (set (front ++ xs ++ back) (start + i) (sent_on x))) (append-nil others)
        (one_sent_on (sim model) model round.stop round.bound (others ++ []) (front ++ xs ++ back) ruled (start + i) x (there front back from)))

    -- it has to send on what is on its way
    pub put_aside : (f : List (Signed E)) → x.outbox ≡ [] → KeepsRule parts cmp behaviour round start xs f (set xs i (record x { outbox = f })) []
    put_aside f none = becomes f [] (record x { outbox = f }) (λ model front back others from ruled.
        subst (λ fs. AreRuled (sim model) model round.stop round.bound fs (set (front ++ xs ++ back) (start + i) (record x { outbox = f }))) (sym (append-nil others))
        (subst (λ o. AreRuled (sim model) model round.stop round.bound others (set (front ++ xs ++ back) (start + i) (record x { outbox = o ++ f }))) none
        (one_kept_aside (sim model) model round.stop round.bound (others ++ f) (front ++ xs ++ back) ruled others f refl (start + i) x (there front back from))))

  -- ---- the last message that was not looked at

  pub last_apart : (far near : List (Signed E)) (s : Signed E) → IsLast s near → far ++ near ≡ (far ++ take (length near - 1) near) ++ s ∷ []
  last_apart far near s last = ap (λ xs. far ++ xs) (last_is near s last) ∙ sym (append_assoc far (take (length near - 1) near) (s ∷ []))

  -- it is for another share
  pub passes : (xs : List (Mailed M E)) (far near : List (Signed E)) (s : Signed E) → IsLast s near → Goes xs (far ++ near) xs ((far ++ s ∷ []) ++ take (length near - 1) near)
  passes xs far near s last = record {
    outboxes = refl;
    rule = λ model front back others from ruled.
        reordered (sim model) model round.stop round.bound (others ++ (far ++ near)) (front ++ xs ++ back) ruled (others ++ ((far ++ s ∷ []) ++ take (length near - 1) near))
        (λ e. (let is = last_is near s last in
        let a = ap (messages (sim model) e) is in
        let b = ap (antimessages (sim model) e) is in
        (grind (arith, messages-append, antimessages-append, a), grind (arith, messages-append, antimessages-append, b))));
  }
