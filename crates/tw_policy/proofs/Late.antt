-- What a router heard of a neighbour, late enough, is a path that the neighbour used not long before.
use Rattle.std.proofs.Common.{◌≡◌, ℕ, ◌+◌, ◌-◌, ◌<◌, ◌≤◌, true, List, [], ◌∷◌, ◌++◌, refl, ap, sym, ◌∙◌, subst, ◌⊎◌, inl, inr, arith, nat_lt, append_assoc}
use Rattle.std.proofs.lemmas.Bool.{cases_Bool, false≢true, ltb-true, ltb-false}
use Rattle.tw_event.specs.declared.event.Body.TheVariants.{Update}
use Rattle.tw_event.specs.declared.event.Event.{Event}
use Rattle.tw_event.specs.declared.event.PathNo.{PathNo}
use Rattle.tw_event.proofs.Order.{before_time, same_is, same_self}
use Rattle.tw_model.specs.declared.state.Row.{Row}
use Rattle.tw_model.specs.State.{has_peer, hop, slot}
use Rattle.tw_model.specs.Case.{Case, IsCase, opening_events, simulation}
use Rattle.tw_sim.specs.Simulation.{all_sent, sent, state, times}
use Rattle.tw_sim.specs.Seq.{log, rest}
use Rattle.tw_sim.proofs.Members.{In, in_append, in_left, in_right, in_times, times_in}
use Rattle.tw_sim.proofs.Unique.{never_both, sent_by_source}
use Rattle.tw_sim.proofs.Closed.{rest_late, running_seq}
use Rattle.tw_model.proofs.Lawful.{lawful, numbered}
use Rattle.tw_model.proofs.Nets.{has_peer_back}
use Rattle.tw_model.proofs.LinkHeard.{Falls, IsFrom, IsHeard, LinkState, agree_along, heard_along, link_along, row_along, silent, some}
use Rattle.tw_model.proofs.LinkTold.{Tell, told, untold}
use Rattle.tw_model.proofs.LinkLast.{IsHistory, IsLast, last, last_along, mute, newest, was_sent}
use Rattle.tw_model.proofs.Agreed.{HasOpened, about, ends_agree}
use Rattle.tw_model.proofs.Quiet.{asked, from_history, from_neighbour, history, in_history, is_history, path_in, sent_update}

-- ---- older parts of a history

-- h is what is left of a history without some newest events, none of them from before s
pub record Since (s : ℕ) (h all : List Event) : Type 0 where
  pub newer : List Event
  pub parts : all ≡ newer ++ h
  pub late : (e : Event) → In e newer → s ≤ e.time

pub since_all : (s : ℕ) (all : List Event) → Since s all all
since_all s all = record { newer = []; parts = refl; late = λ e none. absurd none }

pub since_earlier : (s t : ℕ) (h all : List Event) → s ≤ t → Since t h all → Since s h all
since_earlier s t h all soon is = record { newer = is.newer; parts = is.parts; late = λ e i. (let late = is.late e i in omega arith) }

-- without one event more
pub since_older : (s : ℕ) (e : Event) (h all : List Event) → s ≤ e.time → Since s (e ∷ h) all → Since s h all
since_older s e h all late is = record {
  newer = is.newer ++ e ∷ [];
  parts = is.parts ∙ sym (append_assoc is.newer (e ∷ []) h);
  late = λ x i. elim (in_append x is.newer (e ∷ []) i) [
    | inl k ↦ is.late x k
    | inr k ↦ elim k [ inl same ↦ subst (λ z. s ≤ z.time) (sym same) late | inr none ↦ absurd none ]
  ];
}

-- what is older than s stands there
pub in_since : (s : ℕ) (h all : List Event) → Since s h all → (e : Event) → In e all → e.time < s → In e h
in_since s h all is e i soon =
    elim (in_append e is.newer h (subst (In e) is.parts i)) [
      | inl k ↦ (let late = is.late e k in absurd (omega arith))
      | inr k ↦ k
    ]

pub from_since : (s : ℕ) (h all : List Event) → Since s h all → (e : Event) → In e h → In e all
from_since s h all is e i = subst (In e) (sym is.parts) (in_right e is.newer h i)

falls_older : (newer h : List Event) → Falls (newer ++ h) → Falls h
falls_older [] h f = f
falls_older (x ∷ newer) h f = falls_older newer h f.1

-- a history in two parts: from time s on, and before it
record Cut (s : ℕ) (all : List Event) : Type 0 where
  pub older : List Event
  pub since : Since s older all
  pub soon : (e : Event) → In e older → e.time < s

cut : (s : ℕ) (xs : List Event) → Falls xs → Cut s xs
cut s [] f = record { older = []; since = since_all s []; soon = λ e none. absurd none }
cut s (x ∷ xs) f =
    elim (cases_Bool (nat_lt x.time s)) [
      | inl b ↦ record {
        older = x ∷ xs;
        since = since_all s (x ∷ xs);
        soon = λ e i. grind (arith, ltb-true, before_time);
      }
      | inr b ↦ (
          let more = cut s xs f.1 in
          let late = ltb-false x.time s b in
          record {
            older = more.older;
            since = record {
              newer = x ∷ more.since.newer;
              parts = ap (λ ys. x ∷ ys) more.since.parts;
              late = λ e i. elim i [ inl same ↦ subst (λ z. s ≤ z.time) (sym same) late | inr k ↦ more.since.late e k ];
            };
            soon = more.soon;
          })
    ]

module _ (case : Case) (is : IsCase case) (start t : ℕ) (scripted : (e : Event) → In e (opening_events case.scenes) → e.time < start) (begun : start ≤ t) where
  -- what is asked for before t is handled
  handled : (e : Event) → 0 < times (simulation case) e (opening_events case.scenes) + times (simulation case) e (all_sent (simulation case) (log (simulation case) t))
      → e.time < t → In e (log (simulation case) t)
  handled e h soon =
      let balance = (running_seq (simulation case) (lawful case is) (numbered case is) t).balance e in
      elim (cases_Bool (nat_lt 0 (times (simulation case) e (rest (simulation case) t)))) [
        | inl b ↦ (
            let late = rest_late (simulation case) (lawful case is) (numbered case is) t e (ltb-true 0 (times (simulation case) e (rest (simulation case) t)) b) in
            absurd (omega arith))
        | inr b ↦ (
            let none = ltb-false 0 (times (simulation case) e (rest (simulation case) t)) b in
            in_times (simulation case) same_is e (log (simulation case) t) (omega arith))
      ]

  pub opening_handled : (e : Event) → In e (opening_events case.scenes) → In e (log (simulation case) t)
  opening_handled e i =
      let soon = scripted e i in
      handled e (let k = times_in (simulation case) same_self e (opening_events case.scenes) i in omega arith) (omega arith)

  sent_handled : (e : Event) → In e (sent (simulation case) e.src (history case is t e.src)) → e.time < t → In e (log (simulation case) t)
  sent_handled e i soon =
      handled e
      (let k = times_in (simulation case) same_self e (sent (simulation case) e.src (history case is t e.src)) i in
      let source = sent_by_source (simulation case) (lawful case is) (log (simulation case) t) e in
      omega arith)
      soon

  pub older_part : (r s : ℕ) (h : List Event) → Since s h (history case is t r) → IsHistory case.net r h
  older_part r s h since = record {
    home = λ e i. (is_history case is t r).home e (from_since s h (history case is t r) since e i);
    suit = λ e i. (is_history case is t r).suit e (from_since s h (history case is t r) since e i);
    falls = falls_older since.newer h (subst Falls since.parts (is_history case is t r).falls);
  }

  -- an older part of a history that lacks nothing from before the last scripted event has opened
  pub has_opened : (r s : ℕ) (h : List Event) → start ≤ s → Since s h (history case is t r) → HasOpened case is r h
  has_opened r s h after since =
      let older = older_part r s h since in
      record {
        falls = older.falls;
        home = older.home;
        opened = λ e i d. (let soon = scripted e i in in_since s h (history case is t r) since e (in_history case is t r e (opening_handled e i) d) (omega arith));
        links = λ e x i link. elim (asked case is t e (from_history case is t r e (from_since s h (history case is t r) since e i)).1) [
          | inl o ↦ o
          | inr k ↦ (
              let u = (sent_update case is e.src (history case is t e.src) (is_history case is t e.src).home e k).1 in
              absurd (false≢true (subst (λ b. about x b ≡ true) u.2 link)))
        ];
      }

  -- the router w used the path at time s or later
  pub record IsUsed (w s : ℕ) (q : PathNo) : Type 0 where
    pub h : List Event
    pub since : Since s h (history case is t w)
    pub rib : (state (simulation case) w h).rib ≡ q

  -- what older events sent was sent
  sent_more : (w : ℕ) (newer h : List Event) (u : Event) → In u (sent (simulation case) w h) → In u (sent (simulation case) w (newer ++ h))
  sent_more w [] h u i = i
  sent_more w (e ∷ newer) h u i =
      in_right u ((simulation case).sends (state (simulation case) w (newer ++ h)) e) (sent (simulation case) w (newer ++ h)) (sent_more w newer h u i)

  -- one of the newer events sent it
  record IsSentBy (w : ℕ) (newer h : List Event) (u : Event) : Type 0 where
    pub above : List Event
    pub sender : Event
    pub below : List Event
    pub parts : newer ≡ above ++ sender ∷ below
    pub there : In u ((simulation case).sends (state (simulation case) w (below ++ h)) sender)

  -- a message was sent by older events, or by one of the newer ones
  sent_split : (w : ℕ) (newer h : List Event) (u : Event) → In u (sent (simulation case) w (newer ++ h)) → In u (sent (simulation case) w h) ⊎ IsSentBy w newer h u
  sent_split w [] h u i = inl i
  sent_split w (e ∷ newer) h u i =
      elim (in_append u ((simulation case).sends (state (simulation case) w (newer ++ h)) e) (sent (simulation case) w (newer ++ h)) i) [
        | inl k ↦ inr (record { above = []; sender = e; below = newer; parts = refl; there = k })
        | inr k ↦ elim (sent_split w newer h u k) [
          | inl old ↦ inl old
          | inr by ↦ inr (record { above = e ∷ by.above; sender = by.sender; below = by.below; parts = ap (λ ys. e ∷ ys) by.parts; there = by.there })
        ]
      ]

  module _ (v w : ℕ) (there : has_peer case.net v w ≡ true) where
    back : has_peer case.net w v ≡ true
    back = has_peer_back case.net is.net v w there

    -- how long a message takes from w to v
    abbrev pub delay_to : ℕ
    delay_to = (hop case.net w (slot case.net w v)).delay

    -- what one event told v: the path that w uses afterwards
    told_by : (e : Event) (h : List Event) → IsHistory case.net w (e ∷ h) → (u : Event) → In u ((simulation case).sends (state (simulation case) w h) e) → u.dst ≡ v
        → (n : ℕ) × (u.body ≡ Update (state (simulation case) w (e ∷ h)).rib n)
    told_by e h his u i dst = path_told (newest case is w v back e h his) where
      path_told : Tell case.net w v back e.time (state (simulation case) w h) (state (simulation case) w (e ∷ h)) ((simulation case).sends (state (simulation case) w h) e)
          → (n : ℕ) × (u.body ≡ Update (state (simulation case) w (e ∷ h)).rib n)
      path_told (told x k tells only) = (_, ap (λ z. z.body) (only u i dst) ∙ tells.body)
      path_told (untold none kept) = absurd (none u i dst)

    -- a message that events before s sent arrives before s and the delay
    soon_there : (s : ℕ) (h : List Event) → IsHistory case.net w h → ((e : Event) → In e h → e.time < s) → (u : Event) → In u (sent (simulation case) w h) → u.dst ≡ v
        → u.time < s + delay_to
    soon_there s [] his soon u i dst = absurd i
    soon_there s (e ∷ h) his soon u i dst =
        let first = soon e (inl refl) in
        let time = (was_sent case is w v back (s - 1) (e ∷ h) his (λ x k. let before = soon x k in omega arith) u i dst).time in
        omega arith

    module _ (s : ℕ) (after : start ≤ s) (in_time : s + delay_to ≤ t) (h : List Event) (since : Since (s + delay_to) h (history case is t v)) where
      -- an update that v handled was sent by w
      sent_by : (x : Event) (q : PathNo) (n : ℕ) → In x h → x.src ≡ w → x.body ≡ Update q n → In x (sent (simulation case) w (history case is t w))
      sent_by x q n i src body = from_neighbour case is t v w x q n (from_since (s + delay_to) h (history case is t v) since x i) src body

      home : (x : Event) → In x h → x.dst ≡ v
      home x i = (older_part v (s + delay_to) h since).home x i

      -- what v heard that a newer event of w sent
      used_newer : (older : List Event) → (old : Since s older (history case is t w)) → (x : Event) (q : PathNo) (n : ℕ) → In x h → x.body ≡ Update q n
          → IsSentBy w old.newer older x → IsUsed w s q
      used_newer older old x q n i body by =
          let mine = by.sender ∷ (by.below ++ older) in
          let parts : history case is t w ≡ by.above ++ mine
          = old.parts ∙ (ap (λ ys. ys ++ older) by.parts ∙ append_assoc by.above (by.sender ∷ by.below) older) in
          let part : Since s mine (history case is t w) = record {
            newer = by.above;
            parts = parts;
            late = λ e k. old.late e (subst (In e) (sym by.parts) (in_left e by.above (by.sender ∷ by.below) k));
          } in
          let tells = told_by by.sender (by.below ++ older) (older_part w s mine part) x by.there (home x i) in
          record { h = mine; since = part; rib = path_in x.body (state (simulation case) w mine).rib q tells.0 n tells.1 body }

      -- what the events before s sent v last, it has handled
      arrived : (older : List Event) → Since s older (history case is t w) → ((e : Event) → In e older → e.time < s) → (u : Event) → In u (sent (simulation case) w older) → u.dst ≡ v → In u h
      arrived older old soon u i dst =
          let his = older_part w s older old in
          let time = soon_there s older his soon u i dst in
          let whole : In u (sent (simulation case) w (history case is t w))
          = subst (λ xs. In u (sent (simulation case) w xs)) (sym old.parts) (sent_more w old.newer older u i) in
          let src = (sent_update case is w older his.home u i).0 in
          let done = sent_handled u (subst (λ r. In u (sent (simulation case) r (history case is t r))) (sym src) whole) (omega arith) in
          in_since (s + delay_to) h (history case is t v) since u (in_history case is t v u done dst) time

      is_from : (u : Event) (rib : PathNo) (r : Row) (l m : LinkState) → l ≡ m → l.session ≡ r.session → u.src ≡ w → u.body ≡ Update rib m.session → m.since < u.time
          → IsFrom w r.session l.since u
      is_from u rib r l m same session src body late = grind arith

      module _ (older : List Event) (old : Since s older (history case is t w)) (soon : (e : Event) → In e older → e.time < s) where
        abbrev last_path : PathNo
        last_path = (state (simulation case) w older).rib

        used_older : (q : PathNo) → last_path ≡ q → IsUsed w s q
        used_older q is_last = record { h = older; since = old; rib = is_last }

        heard_used : (r : Row) (l m : LinkState) → l ≡ m → l.session ≡ r.session → IsHeard w h r l → IsLast case is w v back older last_path m → IsUsed w s r.heard
        heard_used r l m same session (some x i src body top) final =
            elim (sent_split w old.newer older x (subst (λ xs. In x (sent (simulation case) w xs)) old.parts (sent_by x r.heard r.session i src body))) [
              | inr by ↦ used_newer older old x r.heard r.session i body by
              | inl k ↦ by_last final k
            ] where
              by_last : IsLast case is w v back older last_path m → In x (sent (simulation case) w older) → IsUsed w s r.heard
              by_last (last u j dst told_body late newest_is) k =
                  let u_src = (sent_update case is w older (older_part w s older old).home u j).0 in
                  let u_there = arrived older old soon u j dst in
                  used_older r.heard (elim (top u u_there (is_from u last_path r l m same session u_src told_body late)) [
                    | inl e ↦ path_in x.body last_path r.heard m.session r.session (ap (λ z. z.body) (sym e) ∙ told_body) body
                    | inr before ↦ elim (newest_is x k (home x i)) [
                      | inl e ↦ path_in x.body last_path r.heard m.session r.session (ap (λ z. z.body) e ∙ told_body) body
                      | inr n ↦ absurd (never_both (simulation case) (lawful case is) x u n before)
                    ]
                  ])
              by_last (mute none empty) k = absurd (none x k (home x i))
        heard_used r l m same session (silent never empty) (last u j dst told_body late newest_is) =
            let u_src = (sent_update case is w older (older_part w s older old).home u j).0 in
            absurd (never u (arrived older old soon u j dst) (is_from u last_path r l m same session u_src told_body late))
        heard_used r l m same session (silent never empty) (mute none no_path) = used_older r.heard (no_path ∙ sym empty)

      -- what v has heard of w, over a link that is up, w used at s or later
      pub heard_late : (row_along w h).up ≡ true → IsUsed w s (row_along w h).heard
      heard_late up =
          let c = cut s (history case is t w) (is_history case is t w).falls in
          let same = ends_agree case is v w h c.older (has_opened v (s + delay_to) h (omega arith) since) (has_opened w s c.older after c.since) in
          let mine = agree_along w h in
          let others = agree_along v c.older in
          let other_up : (row_along v c.older).up ≡ true = sym others.up ∙ (sym (ap (λ l. l.up) same) ∙ (mine.up ∙ up)) in
          heard_used c.older c.since c.soon (row_along w h) (link_along w h) (link_along v c.older) same mine.session
          (heard_along w h (older_part v (s + delay_to) h since).falls up) (last_along case is w v back c.older (older_part w s c.older c.since) other_up)
