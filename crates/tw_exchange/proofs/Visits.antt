-- The fields of an exchange after a visit.
use Rattle.std.proofs.Common.{ℕ, ◌≡◌, ◌<◌, ◌≤◌, List, [], Option, length, map, min, set, get_or, ap, sym, ◌∙◌, subst}
use Rattle.std.proofs.lemmas.List.{length-set}
use Rattle.std.specs.List.{flat_map, fold}
use Rattle.std.specs.Option.{option_to_list}
use Rattle.tw_exchange.specs.AnyBoard.{IsBoard, deposited, followed, handed, least_bound, least_report, visited, who, worker_for, workers}
use Rattle.tw_exchange.specs.Inside.{IsExchange, board_of}
use Rattle.tw_exchange.specs.Owners.{list_of}
use Rattle.tw_exchange.specs.Rows.{items, soonest_of}
use Rattle.tw_exchange.specs.declared.exchange.AnyExchange.TheInside.{Inside}
use Rattle.tw_exchange.specs.declared.mail.TheConstants.{NEVER}
use Rattle.tw_exchange.proofs.Boards.{visited_board}
use Rattle.tw_exchange.proofs.Followed.{followed_of}
use Rattle.tw_exchange.proofs.Least.{bound_found}
use Rattle.tw_exchange.proofs.Rooms.{length_items}
use Rattle.tw_process.specs.Parts.{Parts}
use Rattle.tw_sim.specs.declared.machine.Signed.{Signed}

module _ {E : Type 0} (parts : Parts E) where
  -- b is what a visit makes of a
  pub record IsPassedOn (a b : Inside E) (w : ℕ) (out : List (Signed E)) (report : Option ℕ) : Type 0 where
    pub owners : b.owners ≡ a.owners
    pub mail : items b.mail.items ≡ set (followed parts (worker_for (list_of a.owners) (length a.mail.items)) 0 out (items a.mail.items)) w []
    pub soonest : b.soonest.items ≡ map (soonest_of parts) (items b.mail.items)
    pub reports : b.reports.items ≡ set a.reports.items w (least_report parts report (handed parts w out (board_of a)))
    pub bound : b.bound ≡ fold min (fold min a.stop b.soonest.items) (flat_map option_to_list b.reports.items)
    pub workers : b.workers ≡ a.workers
    pub stop : b.stop ≡ a.stop
    pub halted : b.halted ≡ a.halted

  -- there is mail for as many workers as there are
  pub mail_for_all : (a : Inside E) → IsExchange parts a → length a.mail.items ≡ workers (board_of a)
  mail_for_all a h = sym (length_items a.mail.items) ∙ h.board.mails

  -- what is handed out
  pub handed_out : (a : Inside E) (w : ℕ) (out : List (Signed E)) → IsExchange parts a → w < length a.mail.items
      → get_or (followed parts (worker_for (list_of a.owners) (length a.mail.items)) 0 out (items a.mail.items)) w [] ≡ handed parts w out (board_of a)
  handed_out a w out h below =
      let within : w < length (items a.mail.items) = subst (λ n. w < n) (sym (length_items a.mail.items)) below in
      ap (λ n. get_or (followed parts (worker_for (list_of a.owners) n) 0 out (items a.mail.items)) w []) (mail_for_all a h) ∙ followed_of parts (who (board_of a)) out (items a.mail.items) w within

  pub board_after : (a b : Inside E) (w : ℕ) (out : List (Signed E)) (report : Option ℕ) → IsExchange parts a → IsPassedOn a b w out report → a.stop ≤ NEVER
      → board_of b ≡ visited parts w out report (board_of a)
  board_after a b w out report h p end =
      let x = board_of a in
      let told = least_report parts report (handed parts w out x) in
      let mail : items b.mail.items ≡ set (deposited parts out x) w [] = p.mail ∙ ap (λ n. set (followed parts (worker_for (list_of a.owners) n) 0 out (items a.mail.items)) w []) (mail_for_all a h) in
      let row : b.bound ≡ fold min (fold min a.stop (map (soonest_of parts) (items b.mail.items))) (flat_map option_to_list b.reports.items) =
      (p.bound ∙ ap (λ r. fold min (fold min a.stop r) (flat_map option_to_list b.reports.items)) p.soonest) in
      let bound : b.bound ≡ least_bound parts (set x.reports w told) (set (deposited parts out x) w []) x.stop =
      (row ∙ (sym (bound_found parts b.reports.items (items b.mail.items) a.stop end) ∙ λ i. least_bound parts (p.reports i) (mail i) a.stop)) in
      λ i. record { owners = list_of (p.owners i); mail = mail i; reports = p.reports i; bound = bound i; stop = p.stop i; halted = p.halted i }

  pub exchange_after : (a b : Inside E) (w : ℕ) (out : List (Signed E)) (report : Option ℕ) → IsExchange parts a → IsPassedOn a b w out report → a.stop ≤ NEVER → IsExchange parts b
  exchange_after a b w out report h p end = record {
    board = subst (IsBoard parts) (sym (board_after a b w out report h p end)) (visited_board parts w out report (board_of a) h.board);
    soonest = p.soonest;
    reports = ap length p.reports ∙ (length-set a.reports.items w (least_report parts report (handed parts w out (board_of a))) ∙ (h.reports ∙ sym p.workers));
  }
