-- A router goes from the shard and hand of one worker to those of another.
use Rattle.std.proofs.Common.{◌≡◌, ℕ, zero, suc, ◌+◌, ◌<◌, List, [], ◌∷◌, ◌++◌, Some, drop, filter, get_or, length, set, slice_get, refl, ap, sym, ◌∙◌, subst, arith}
use Rattle.std.proofs.lemmas.List.{length-set}
use Rattle.tw_event.specs.declared.event.Event.{Event}
use Rattle.tw_exchange.specs.Board.{Board, all_mail, is_to, is_to_another}
use Rattle.tw_parallel.proofs.PutBack.{set_set}
use Rattle.tw_parallel.specs.Moving.{AreEnds, HasHanded, HasMovedBetween, HasPassed}
use Rattle.tw_shard.specs.Shard.{Shard, no_shard}
use Rattle.tw_sim.specs.declared.machine.Signed.{Signed}
use Rattle.tw_table.specs.declared.hand.Hand.{Hand}
use Rattle.tw_table.specs.Moving.{waiting}
use Rattle.tw_table.specs.Shares.{Share, share, shares_of}

-- the share at a place
share_is : (ss : List Shard) (hs : List Hand) (k : ℕ) (d : Hand) → length hs ≡ length ss → k < length ss → slice_get (shares_of ss hs) k ≡ Some (share (get_or ss k no_shard) (get_or hs k d))
share_is [] hs k d same within = absurd (omega arith)
share_is (s ∷ ss) [] k d same within = absurd (omega arith)
share_is (s ∷ ss) (h ∷ hs) zero d same within = refl
share_is (s ∷ ss) (h ∷ hs) (suc k) d same within = share_is ss hs k d (omega arith) (omega arith)

-- another shard and hand at a place
shares_set : (ss : List Shard) (hs : List Hand) (k : ℕ) (s : Shard) (h : Hand) → length hs ≡ length ss → shares_of (set ss k s) (set hs k h) ≡ set (shares_of ss hs) k (share s h)
shares_set [] [] k s h same = refl
shares_set [] (y ∷ hs) k s h same = absurd (omega arith)
shares_set (x ∷ ss) [] k s h same = absurd (omega arith)
shares_set (x ∷ ss) (y ∷ hs) zero s h same = refl
shares_set (x ∷ ss) (y ∷ hs) (suc k) s h same = ap (λ l. share x y ∷ l) (shares_set ss hs k s h (omega arith))

-- hands that hold the same
pub record HoldsSame (h k : Hand) : Type 0 where
  pub mail : k.mail.items ≡ h.mail.items
  pub next : k.next ≡ h.next
  pub out : k.out ≡ h.out

pub same_shares : (ss : List Shard) (hs ks : List Hand) → length ks ≡ length hs → ((k : ℕ) (d : Hand) → HoldsSame (get_or hs k d) (get_or ks k d)) → shares_of ss ks ≡ shares_of ss hs
same_shares [] hs ks long each = refl
same_shares (s ∷ ss) [] [] long each = refl
same_shares (s ∷ ss) [] (k ∷ ks) long each = absurd (omega arith)
same_shares (s ∷ ss) (h ∷ hs) [] long each = absurd (omega arith)
same_shares (s ∷ ss) (h ∷ hs) (k ∷ ks) long each =
    let first = each 0 h in
    λ i. record { shard = s; mail = drop (first.next i) (first.mail i); unsent = (first.out i).items } ∷ same_shares ss hs ks (omega arith) (λ k d. each (suc k) d) i

module _ (r from to : ℕ) (x : Board) (ss ss2 : List Shard) (hs hs1 hs2 : List Hand) (d last : Hand) (same : length hs ≡ length ss) (ends : AreEnds from to (length ss)) (long : length hs1 ≡ length hs)
    (kept : (k : ℕ) (d : Hand) → HoldsSame (get_or hs k d) (get_or hs1 k d)) (passed : HasPassed r from to ss ss2) (handed : HasHanded r from to hs1 hs2 d)
    (mail : last.mail.items ≡ (get_or hs2 to d).mail.items ++ filter (is_to r) (all_mail x)) (next : last.next ≡ (get_or hs2 to d).next) (out : last.out ≡ (get_or hs2 to d).out) where
  abbrev hs3 : List Hand
  hs3 = set hs2 to last

  -- the hands at the end, by those at the beginning
  hands : hs3 ≡ set (set hs1 from (get_or hs2 from d)) to last
  hands = ap (λ l. set l to last) handed.rest ∙ set_set (set hs1 from (get_or hs2 from d)) to (get_or hs2 to d) last

  later : shares_of ss2 hs3 ≡ set (set (shares_of ss hs) from (share (get_or ss2 from no_shard) (get_or hs2 from d))) to (share (get_or ss2 to no_shard) last)
  later =
      let s2 = get_or ss2 from no_shard in
      let t2 = get_or ss2 to no_shard in
      let h2 = get_or hs2 from d in
      let as_long : length hs1 ≡ length ss = long ∙ same in
      let inner : length (set hs1 from h2) ≡ length (set ss from s2) = length-set hs1 from h2 ∙ (as_long ∙ sym (length-set ss from s2)) in
      (λ i. shares_of (passed.rest i) (hands i))
      ∙ (shares_set (set ss from s2) (set hs1 from h2) to t2 last inner
      ∙ ap (λ l. set l to (share t2 last)) (shares_set ss hs1 from s2 h2 as_long ∙ ap (λ l. set l from (share s2 h2)) (same_shares ss hs hs1 long kept)))

  -- what waits in each hand is what waited there
  waits : (k : ℕ) → waiting (get_or hs1 k d) ≡ waiting (get_or hs k d)
  waits k = let held = kept k d in λ i. drop (held.next i) (held.mail i)

  last_waits : waiting last ≡ (waiting (get_or hs to d) ++ filter (is_to r) (waiting (get_or hs from d))) ++ filter (is_to r) (all_mail x)
  last_waits =
      let none : last.next ≡ 0 = next ∙ handed.handed.next in
      let all : waiting (get_or hs2 to d) ≡ (get_or hs2 to d).mail.items = ap (λ n. drop n (get_or hs2 to d).mail.items) handed.handed.next in
      ap (λ n. drop n last.mail.items) none
      ∙ (mail ∙ ap (λ l. l ++ filter (is_to r) (all_mail x)) (sym all ∙ (handed.handed.came ∙ (λ i. waits to i ++ filter (is_to r) (waits from i)))))

  pub moved_between : HasMovedBetween r from to x (shares_of ss hs) (shares_of ss2 hs3)
  moved_between = record {
    share = share (get_or ss from no_shard) (get_or hs from d);
    other = share (get_or ss to no_shard) (get_or hs to d);
    share_later = share (get_or ss2 from no_shard) (get_or hs2 from d);
    other_later = share (get_or ss2 to no_shard) last;
    there = share_is ss hs from d same ends.from_within;
    other_there = share_is ss hs to d same ends.to_within;
    moved = record {
      left = passed.left;
      came = passed.came;
      mail_left = handed.handed.left ∙ ap (filter (is_to_another r)) (waits from);
      mail_came = last_waits;
      unsent_left = ap (λ v. v.items) (handed.handed.out ∙ (kept from d).out);
      unsent_came = ap (λ v. v.items) (out ∙ (handed.handed.to_out ∙ (kept to d).out));
    };
    later_is = later;
  }
