-- What more room leaves of a shard.
use Rattle.std.proofs.Common.{◌≡◌, ℕ, ◌*◌, true, [], length, refl, ap, sym, ◌∙◌, Ok, Err, if◌then◌else◌}
use Rattle.tw_core.specs.declared.limits.TheConstants.{OPENING_ROOM}
use Rattle.tw_core.specs.declared.refusal.Refusal.TheVariants.{NotMine}
use Rattle.tw_core.specs.Steps.{put, with_room}
use Rattle.tw_model.specs.Case.{simulation}
use Rattle.tw_shard.specs.Shard.{IsSoundShard, Shard, owns, shard_core, timeline, widened_at, widening}
use Rattle.tw_shard.specs.Timeline.{Timeline, history}
use Rattle.tw_shard.proofs.Shares.{read_put, read_same}
use Rattle.tw_shard.proofs.Steps.{room_is}

module _ (s : Shard) (r : ℕ) (whole : IsSoundShard s) (mine : owns s r ≡ true) where
  core_widened : (stop : ℕ) → shard_core stop (widened_at s r) ≡ with_room (simulation s.terms.case) (shard_core stop s) r
  core_widened stop =
      let t : Timeline = record (timeline s r) { room = 2 * (timeline s r).room } in
      let histories = read_same s r t s.pending s.outgoing s.held whole mine history [] refl in
      let dones = read_same s r t s.pending s.outgoing s.held whole mine (λ (t : Timeline). t.done) 0 refl in
      let pasts = read_same s r t s.pending s.outgoing s.held whole mine (λ (t : Timeline). length t.past) 0 refl in
      let rooms =
      read_put s r t s.pending s.outgoing s.held whole mine (λ (t : Timeline). t.room) OPENING_ROOM
      ∙ ap (λ n. put (shard_core stop s).room r (2 * n)) (sym (room_is s r whole mine stop)) in
      λ i. record {
        history = histories i;
        pending = s.pending;
        kept = s.kept;
        flight = s.outgoing;
        held = s.held;
        done = dones i;
        past = pasts i;
        room = rooms i;
        bound = s.bound;
        stop = stop;
        cancel = s.terms.cancel;
      }

  -- what the machine does where the router is one of its own
  pub widens : (stop : ℕ) → widening stop s r ≡ Ok (shard_core stop (widened_at s r))
  widens stop =
      ap (λ b. if b then Ok (with_room (simulation s.terms.case) (shard_core stop s) r) else Err NotMine) mine ∙ ap (λ c. Ok c) (sym (core_widened stop))
