-- The fields of an exchange after a move.
use Rattle.smallvec.proofs.SmallVecLemmas.{items-with_items}
use Rattle.smallvec.specs.SmallVec.{small_vec_len, with_items}
use Rattle.std.proofs.Common.{ℕ, Global, Vec, ◌≡◌, List, [], Some, false, filter, length, map, get_or, refl, ap, set, sym, ◌∙◌, subst}
use Rattle.std.proofs.lemmas.List.{length-set}
use Rattle.std.specs.List.{AllByRecursion}
use Rattle.std.specs.Option.{option_map}
use Rattle.tw_exchange.specs.AnyBoard.{AnyBoard, IsBoard, all_mail, is_to, is_to_another, who, with_owner, without_mail}
use Rattle.tw_exchange.specs.Inside.{IsExchange, board_of}
use Rattle.tw_exchange.specs.Owners.{list_of}
use Rattle.tw_exchange.specs.Rows.{items, soonest_of}
use Rattle.tw_exchange.specs.declared.exchange.AnyExchange.TheInside.{Inside}
use Rattle.tw_exchange.proofs.Moving.{given_board, left_out, without_board}
use Rattle.tw_process.specs.Parts.{Parts}
use Rattle.tw_sim.specs.declared.machine.Signed.{Signed}

module _ {E : Type 0} where
  -- b is a once worker w has router r
  pub record IsWithOwner (a b : Inside E) (r w : ℕ) : Type 0 where
    pub owners : list_of b.owners ≡ option_map (λ list. set list r w) (list_of a.owners)
    pub mail : b.mail.items ≡ a.mail.items
    pub soonest : b.soonest.items ≡ a.soonest.items
    pub reports : b.reports.items ≡ set a.reports.items w (Some a.bound)
    pub bound : b.bound ≡ a.bound
    pub workers : b.workers ≡ a.workers
    pub stop : b.stop ≡ a.stop
    pub halted : b.halted ≡ a.halted

  pub board_given : (a b : Inside E) (r w : ℕ) → IsWithOwner a b r w → board_of b ≡ with_owner r w (board_of a)
  board_given a b r w p = λ i. record { owners = p.owners i; mail = items (p.mail i); reports = p.reports i; bound = p.bound i; stop = p.stop i; halted = p.halted i }

module _ {E : Type 0} (parts : Parts E) where
  pub exchange_given : (a b : Inside E) (r w : ℕ) (x : AnyBoard E) → IsExchange parts a → board_of a ≡ x → IsWithOwner a b r w → AllByRecursion (λ m. is_to parts r m ≡ false) (all_mail x) → IsExchange parts b
  exchange_given a b r w x h is p none = record {
    board = subst (IsBoard parts) (sym (board_given a b r w p)) (given_board parts r w (board_of a) h.board (subst (λ y. AllByRecursion (λ m. is_to parts r m ≡ false) (all_mail y)) (sym is) none));
    soonest = p.soonest ∙ (h.soonest ∙ ap (λ rows. map (soonest_of parts) (items rows)) (sym p.mail));
    reports = ap length p.reports ∙ (length-set a.reports.items w (Some a.bound) ∙ (h.reports ∙ sym p.workers));
  }

  -- b is a once what is for router r is taken out of worker w's mail
  pub record IsTaken (a b : Inside E) (r w : ℕ) : Type 0 where
    pub owners : b.owners ≡ a.owners
    pub mail : items b.mail.items ≡ set (items a.mail.items) w (filter (is_to_another parts r) (get_or (items a.mail.items) w []))
    pub soonest : b.soonest.items ≡ map (soonest_of parts) (items b.mail.items)
    pub reports : b.reports.items ≡ a.reports.items
    pub bound : b.bound ≡ a.bound
    pub workers : b.workers ≡ a.workers
    pub stop : b.stop ≡ a.stop
    pub halted : b.halted ≡ a.halted

  pub board_taken : (a b : Inside E) (r w : ℕ) → IsExchange parts a → who (board_of a) r ≡ w → IsTaken a b r w → board_of b ≡ without_mail parts r (board_of a)
  board_taken a b r w h whose p =
      (λ i. record { owners = list_of (p.owners i); mail = p.mail i; reports = p.reports i; bound = p.bound i; stop = p.stop i; halted = p.halted i })
      ∙ left_out parts r w (board_of a) (set (items a.mail.items) w (filter (is_to_another parts r) (get_or (items a.mail.items) w []))) h.board whose refl

  pub exchange_taken : (a b : Inside E) (r w : ℕ) → IsExchange parts a → who (board_of a) r ≡ w → IsTaken a b r w → IsExchange parts b
  exchange_taken a b r w h whose p = record {
    board = subst (IsBoard parts) (sym (board_taken a b r w h whose p)) (without_board parts r (board_of a) h.board);
    soonest = p.soonest;
    reports = ap length p.reports ∙ (h.reports ∙ sym p.workers);
  }

module _ {E : Type 0} where
  -- with other rows of as many workers
  abbrev pub with_mail : Inside E → List (Vec (Signed E) Global) → List ℕ → Inside E
  with_mail a mail soonest = record a { mail = with_items a.mail mail; soonest = with_items a.soonest soonest }

module _ {E : Type 0} (parts : Parts E) where
  pub taken_from : (a : Inside E) (r w : ℕ) (mail : List (Vec (Signed E) Global)) (soonest : List ℕ) → length mail ≡ small_vec_len a.mail → length soonest ≡ small_vec_len a.soonest
      → items mail ≡ set (items a.mail.items) w (filter (is_to_another parts r) (get_or (items a.mail.items) w [])) → soonest ≡ map (soonest_of parts) (items mail) → IsTaken parts a (with_mail a mail soonest) r w
  taken_from a r w mail soonest long long_too is least =
      let rows = items-with_items a.mail mail long in
      record {
        owners = refl;
        mail = ap items rows ∙ is;
        soonest = items-with_items a.soonest soonest long_too ∙ (least ∙ ap (λ m. map (soonest_of parts) (items m)) (sym rows));
        reports = refl;
        bound = refl;
        workers = refl;
        stop = refl;
        halted = refl;
      }

  -- where the rows have the same items
  pub board_kept : (a : Inside E) (mail : List (Vec (Signed E) Global)) (soonest : List ℕ) → length mail ≡ small_vec_len a.mail → items mail ≡ items a.mail.items → board_of (with_mail a mail soonest) ≡ board_of a
  board_kept a mail soonest long is =
      let same : items (with_mail a mail soonest).mail.items ≡ items a.mail.items = ap items (items-with_items a.mail mail long) ∙ is in
      λ i. record { owners = list_of a.owners; mail = same i; reports = a.reports.items; bound = a.bound; stop = a.stop; halted = a.halted }

  pub exchange_kept : (a : Inside E) (mail : List (Vec (Signed E) Global)) (soonest : List ℕ) → length mail ≡ small_vec_len a.mail → length soonest ≡ small_vec_len a.soonest
      → items mail ≡ items a.mail.items → soonest ≡ map (soonest_of parts) (items mail) → IsExchange parts a → IsExchange parts (with_mail a mail soonest)
  exchange_kept a mail soonest long long_too is least h =
      let rows = items-with_items a.mail mail long in
      let same : items (with_mail a mail soonest).mail.items ≡ items a.mail.items = ap items rows ∙ is in
      record {
        board = subst (IsBoard parts) (sym (λ i. record { owners = list_of a.owners; mail = same i; reports = a.reports.items; bound = a.bound; stop = a.stop; halted = a.halted })) h.board;
        soonest = items-with_items a.soonest soonest long_too ∙ (least ∙ ap (λ m. map (soonest_of parts) (items m)) (sym rows));
        reports = h.reports;
      }
