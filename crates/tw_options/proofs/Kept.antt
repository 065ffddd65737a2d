-- A parse that finds no fault keeps one value of an option that takes one, and the option takes it.
use Rattle.std.proofs.Common.{◌≡◌, ◌∙◌, ◌&&◌, ◌||◌, ap, ap₂, option_map, sym, subst, refl, arith, true, false, not, ℕ, zero, suc, Bool, cond, Option, Some}
use Rattle.std.proofs.Common.{None, is_some, List, [], ◌∷◌, ◌++◌, length, drop}
use Rattle.std.specs.Prelude.{◌==◌, encode_utf8, option_and_then, slice_get}
use Rattle.std.specs.List.{AllByRecursion, find, fold}
use Rattle.std.specs.Option.{option_map_or}
use Rattle.std.specs.Str.{bytes_eq, chars}
use Rattle.std.proofs.lemmas.List.{append-nil}
use Rattle.std.proofs.lemmas.Bool.{eqb-true}
use Rattle.clap.specs.Facts.{explicit_source, parser_of_value, unwrap_or_range}
use Rattle.clap.specs.Faults.{action_fault, bundle_fault, bundle_step_fault, check_fault, defaults_fault, level_fault, flag_word_fault, flags_fault, long_fault}
use Rattle.clap.specs.Faults.{option_fault, other_fault, positional_fault, react_fault, settle_fault, short_fault, step_fault, stray_fault, turn_fault}
use Rattle.clap.specs.Faults.{use_fault, values_fault, walk_fault, word_fault}
use Rattle.clap.specs.Kinds.{Kinds, or_else, range_kinds, value_kinds}
use Rattle.clap.specs.Lexer.{long_of, short_of}
use Rattle.clap.specs.Simple.{Shape}
use Rattle.clap.specs.Takes.{is_given}
use Rattle.clap.specs.Values.{read_as}
use Rattle.clap.specs.Walk.{nothing_held, one_of, row_text, rows_after, walk, walk_from, Held, Names, Outcome, Row, Rule, Step, Text, Waiting, Walk, done}
use Rattle.clap.specs.Walk.{flag_met, bundle_step, option, option_word, plain, positional, refused, short_or_plain, used_by_id, waits, action_of, after_flag}
use Rattle.clap.specs.Walk.{arg_by_id, arg_by_index, arg_by_long, arg_by_short, at_row, attached_value, bundle, bundle_met, has_row, idle, long_met}
use Rattle.clap.specs.Walk.{long_or_other, most_values, option_met, plain_word, reacted, reading_by, settled, settled_rows, short_met, subcommand_met}
use Rattle.clap.specs.Walk.{default_rows, with_default, next, subcommand, value, walked_from, is_pending, subcommand_or_other, takes_several, trailing}
use Rattle.clap.specs.Walk.{takes_values, to_positional, after_step, used, used_as, values_or_missing, walked, with_values, without, word_met}
use Rattle.clap.specs.declared.builder.range.ValueRange.{ValueRange}
use Rattle.clap.specs.declared.builder.value_parser.Reading.{Reading}
use Rattle.clap.specs.declared.builder.action.ArgAction.{ArgAction}
use Rattle.clap.specs.declared.builder.action.ArgAction.TheVariants.{Set, SetTrue, Help}
use Rattle.clap.specs.declared.error.kind.ErrorKind.TheVariants as kind
use Rattle.clap.specs.declared.parser.matches.ValueSource.{ValueSource}
use Rattle.clap.specs.declared.parser.matches.ValueSource.TheVariants.{CommandLine, DefaultValue}
use Rattle.tw_options.proofs.Passing.{found_has, none_of_both}

-- ---- rows

at_row_none : (id : Text) (change : Row → List Row) (missing rows : List Row) → has_row id rows ≡ false
    → at_row id change missing rows ≡ rows ++ missing
at_row_none id change missing [] h = refl
at_row_none id change missing (r ∷ rs) h = go (bytes_eq r.id id) h (at_row_none id change missing rs)
  where
    go : (b : Bool) → (b || has_row id rs) ≡ false → (has_row id rs ≡ false → at_row id change missing rs ≡ rs ++ missing)
        → cond b (change r ++ rs) (r ∷ at_row id change missing rs) ≡ r ∷ (rs ++ missing)
    go true h rest = cc
    go false h rest = ap (λ (l : List Row). r ∷ l) (rest h)

-- an option t that takes one value, and is alone under its id
module _ (t : Rule) where
  -- one value, which t takes
  abbrev pub Single : Row → Type 0
  Single r = (v : Text) × (r.values ≡ v ∷ []) × (value_kinds t.ignore_case (parser_of_value t.parser) v ≡ []) × (r.reading ≡ reading_by t)

  -- a row that is t's has such a value
  abbrev pub Good : Row → Type 0
  Good r = bytes_eq r.id t.id ≡ true → Single r

  abbrev pub GoodRows : List Row → Type 0
  GoodRows rows = AllByRecursion Good rows

  -- the actions of our options and flags
  abbrev pub IsPlain : ArgAction → Type 0
  IsPlain Set = Unit {0}
  IsPlain SetTrue = Unit {0}
  IsPlain Help = Unit {0}
  IsPlain _ = ⊥

  -- a rule that may stand beside t
  abbrev pub Fits : Rule → Type 0
  Fits a = (bytes_eq a.id t.id ≡ true → a ≡ t) × IsPlain (action_of a)

  good_append : (xs : List Row) (r : Row) → GoodRows xs → Good r → GoodRows (xs ++ r ∷ [])
  good_append [] r all good = (good, tt)
  good_append (x ∷ xs) r all good = (all.0, good_append xs r all.1 good)

  abbrev new_row : Rule → ValueSource → List Text → Row
  new_row a s values = record { id = a.id; values = values; count = None; source = Some s; reading = reading_by a }

  good_added : (a : Rule) (s : ValueSource) (values : List Text) (rows : List Row) → has_row a.id rows ≡ false → Good (new_row a s values)
      → GoodRows rows → GoodRows (with_values a.id (reading_by a) s values rows)
  good_added a s values rows none good all = rw (at_row_none a.id _ _ rows none) (good_append rows (new_row a s values) all good)

  good_replaced : (a : Rule) (values : List Text) (rows : List Row) → has_row a.id rows ≡ false → Good (new_row a CommandLine values)
      → GoodRows rows → GoodRows (with_values a.id (reading_by a) CommandLine values (without a.id rows))
  good_replaced a values rows none good all =
      let same : without a.id rows ≡ rows = at_row_none a.id (λ _. []) [] rows none ∙ append-nil rows in
      rw same (good_added a CommandLine values rows none good all)

  no_row : (has : Bool) (values : Kinds) → or_else (cond (has && not false) (kind.ArgumentConflict ∷ []) []) values ≡ []
      → (has ≡ false) × (values ≡ [])
  no_row true values h = cc
  no_row false values h = (refl, h)

  module _ (one : unwrap_or_range t.range ≡ record { start_inclusive = 1; end_inclusive = 1 }) where
    single : (n : ℕ) → range_kinds 1 1 n ≡ [] → n ≡ 1
    single n h = go (n == 0) (1 == n) refl h
      where
        go : (a b : Bool) → (1 == n) ≡ b → cond a (kind.InvalidValue ∷ []) (cond b [] (kind.WrongNumberOfValues ∷ [])) ≡ [] → n ≡ 1
        go true b e h = cc
        go false true e h = sym (eqb-true 1 n e)
        go false false e h = cc

    single_row : (values : List Text) → length values ≡ 1 → values_fault t (values_or_missing t values) ≡ []
        → Single (new_row t CommandLine (values_or_missing t values))
    single_row [] n h = absurd (omega arith)
    single_row (v ∷ []) n h = (v, refl, (none_of_both _ _ h).0, refl)
    single_row (v ∷ w ∷ ws) n h = absurd (omega arith)

    good_new : (a : Rule) (values : List Text) → Fits a
        → range_kinds (unwrap_or_range a.range).start_inclusive (most_values a) (length values) ≡ []
        → values_fault a (values_or_missing a values) ≡ [] → Good (new_row a CommandLine (values_or_missing a values))
    good_new a values fits range passed e =
        let is = fits.0 e in
        let r = subst (λ (b : Rule). range_kinds (unwrap_or_range b.range).start_inclusive (most_values b) (length values) ≡ []) is range in
        let p = subst (λ (b : Rule). values_fault b (values_or_missing b values) ≡ []) is passed in
        subst (λ (b : Rule). Single (new_row b CommandLine (values_or_missing b values))) (sym is)
        (single_row values (single (length values) (subst (λ (w : ValueRange). range_kinds w.start_inclusive w.end_inclusive (length values) ≡ []) one r)) p)

    good_used : (a : Rule) (values : List Text) (rows : List Row) → Fits a → use_fault false a values rows ≡ [] → GoodRows rows
        → GoodRows (used a values rows)
    good_used a values rows fits h all = go (action_of a) fits.1 step.1
      where
        step : (range_kinds (unwrap_or_range a.range).start_inclusive (most_values a) (length values) ≡ [])
            × (action_fault (action_of a) false a (values_or_missing a values) rows ≡ [])
        step = none_of_both _ _ h

        set : or_else (cond (has_row a.id rows && not false) (kind.ArgumentConflict ∷ []) []) (values_fault a (values_or_missing a values)) ≡ []
            → GoodRows (with_values a.id (reading_by a) CommandLine (values_or_missing a values) (without a.id rows))
        set f =
            let n = no_row (has_row a.id rows) _ f in
            good_replaced a (values_or_missing a values) rows n.0 (good_new a values fits step.0 n.1) all

        go : (x : ArgAction) → IsPlain x → action_fault x false a (values_or_missing a values) rows ≡ []
            → GoodRows (used_as x a.id (reading_by a) (values_or_missing a values) rows)
        go Set u f = set f
        go SetTrue u f = set f
        go Help u f = cc
        go _ u f = absurd u

    module _ (c : List Rule) (fit : AllByRecursion Fits c) where
      fits_found : (p : Rule → Bool) (a : Rule) → find p c ≡ Some a → Fits a
      fits_found p a is = (found_has Fits p c a fit is).0

      good_by_id : (o : Option Rule) → ((a : Rule) → o ≡ Some a → Fits a) → (values : List Text) (rows : List Row)
          → option_map_or (λ a. use_fault false a values rows) o [] ≡ [] → GoodRows rows → GoodRows (used_by_id o values rows)
      good_by_id None fits values rows f all = all
      good_by_id (Some a) fits values rows f all = good_used a values rows (fits a refl) f all

      good_settled_rows : (p : Option (Text × List Text)) (rows : List Row)
          → option_map_or (λ p. option_map_or (λ a. use_fault false a p.1 rows) (arg_by_id c p.0) []) p [] ≡ [] → GoodRows rows
          → GoodRows (settled_rows c p rows)
      good_settled_rows None rows f all = all
      good_settled_rows (Some p) rows f all = good_by_id (arg_by_id c p.0) (λ a. fits_found _ a) p.1 rows f all

      good_settled : (h : Held) → settle_fault c false h ≡ [] → GoodRows h.rows → GoodRows (settled c h).rows
      good_settled h f all = good_settled_rows h.pending h.rows f all

      good_reacted : (a : Rule) (values : List Text) (h : Held) → Fits a → react_fault c false a values h ≡ [] → GoodRows h.rows
          → GoodRows (reacted c a values h).rows
      good_reacted a values h fits f all =
          let two = none_of_both _ _ f in
          good_used a values (settled c h).rows fits two.1 (good_settled h two.0 all)

      good_option : (a : Rule) (v : Option Text) (h : Held) → Fits a → option_fault c false a v h ≡ [] → GoodRows h.rows
          → GoodRows (option_met c a v h).0.rows
      good_option a (Some v) h fits f all = good_reacted a (v ∷ []) h fits f all
      good_option a None h fits f all = good_settled h f all

      good_flag : (a : Rule) (v : Option Text) (h : Held) → Fits a → cond (is_some v) (kind.TooManyValues ∷ []) (react_fault c false a [] h) ≡ []
          → GoodRows h.rows → GoodRows (flag_met c a v h).0.rows
      good_flag a (Some v) h fits f all = all
      good_flag a None h fits f all = good_reacted a [] h fits f all

      good_long : (o : Option Rule) (v : Option Text) (h : Held) → ((a : Rule) → o ≡ Some a → Fits a) → long_fault c false o v h ≡ []
          → GoodRows h.rows → GoodRows (long_met c o v h).0.rows
      good_long None v h fits f all = all
      good_long (Some a) v h fits f all = go (takes_values a) f
        where
          go : (b : Bool) → cond b (option_fault c false a v h) (cond (is_some v) (kind.TooManyValues ∷ []) (react_fault c false a [] h)) ≡ []
              → GoodRows (cond b (option_met c a v h) (flag_met c a v h)).0.rows
          go true f = good_option a v h (fits a refl) f all
          go false f = good_flag a v h (fits a refl) f all

      good_short : (o : Option Rule) (rest : Text) (h : Held) (go_on : Held → Held × Outcome) (faults : Held → Kinds)
          → ((a : Rule) → o ≡ Some a → Fits a) → ((k : Held) → faults k ≡ [] → GoodRows k.rows → GoodRows (go_on k).0.rows)
          → short_fault c false o rest h faults ≡ [] → GoodRows h.rows → GoodRows (short_met c o rest h go_on).0.rows
      good_short None rest h go_on faults fits on f all = all
      good_short (Some a) rest h go_on faults fits on f all = go (takes_values a) f
        where
          go : (b : Bool) → cond b (option_fault c false a (attached_value rest) h) (or_else (react_fault c false a [] h) (faults (reacted c a [] h))) ≡ []
              → GoodRows (cond b (option_met c a (attached_value rest) h) (go_on (reacted c a [] h))).0.rows
          go true f = good_option a (attached_value rest) h (fits a refl) f all
          go false f =
              let two = none_of_both _ _ f in
              on (reacted c a [] h) two.1 (good_reacted a [] h (fits a refl) two.0 all)

      good_step : (k : ℕ) (o : Option ℕ) (flags : Text) (skip : ℕ) (so_far : Outcome) (h : Held)
          → ((flags : Text) (skip : ℕ) (so_far : Outcome) (h : Held) → flags_fault c false k flags skip h ≡ [] → GoodRows h.rows
          → GoodRows (bundle_met c k flags skip so_far h).0.rows)
          → bundle_step_fault c false o flags skip h (flags_fault c false k) ≡ [] → GoodRows h.rows
          → GoodRows (bundle_step c o flags skip so_far h (bundle_met c k)).0.rows
      good_step k None flags skip so_far h on f all = all
      good_step k (Some x) flags zero so_far h on f all =
          let rest = drop (length (encode_utf8 x)) flags in
          good_short (arg_by_short c x) rest h (bundle_met c k rest 0 done) (flags_fault c false k rest 0) (λ a. fits_found _ a)
          (λ j. on rest 0 done j) f all
      good_step k (Some x) flags (suc skip) so_far h on f all = on (drop (length (encode_utf8 x)) flags) skip so_far h f all

      good_bundle : (k : ℕ) (flags : Text) (skip : ℕ) (so_far : Outcome) (h : Held) → flags_fault c false k flags skip h ≡ []
          → GoodRows h.rows → GoodRows (bundle_met c k flags skip so_far h).0.rows
      unfolding flags_fault bundle_met
      good_bundle zero flags skip so_far h f all = all
      good_bundle (suc k) flags skip so_far h f all =
          good_step k (slice_get (chars flags) 0) flags skip so_far h (good_bundle k) f all

      good_pushed : (o : Option Rule) (id word : Text) (h : Held) → GoodRows h.rows → GoodRows (option_word o id word h).0.rows
      good_pushed None id word h all = all
      good_pushed (Some a) id word h all = all

      good_plain : (waiting : Waiting) (word : Text) (h : Held) → GoodRows h.rows → GoodRows (plain_word c waiting word h).0.rows
      good_plain idle word h all = all
      good_plain (option id) word h all = good_pushed (arg_by_id c id) id word h all
      good_plain positional word h all = all

      good_after : (waiting : Waiting) (word : Text) (h : Held) (o : Outcome) → GoodRows h.rows
          → GoodRows (after_flag c waiting word h o).0.rows
      good_after waiting word h done all = all
      good_after waiting word h (waits id) all = all
      good_after waiting word h plain all = good_plain waiting word h all
      good_after waiting word h refused all = good_plain waiting word h all

      good_flag_word : (waiting : Waiting) (word : Text) (o : Option (Text × Option Text)) (h : Held) → flag_word_fault c false o word h ≡ []
          → GoodRows h.rows → GoodRows (long_or_other c waiting word o h).0.rows
      good_flag_word waiting word (Some p) h f all =
          good_after waiting word (long_met c (arg_by_long c p.0) p.1 h).0 (long_met c (arg_by_long c p.0) p.1 h).1
          (good_long (arg_by_long c p.0) p.1 h (λ a. fits_found _ a) f all)
      good_flag_word waiting word None h f all = go (short_of word) f
        where
          go : (o : Option Text) → option_map_or (λ flags. bundle_fault c false flags h) o [] ≡ []
              → GoodRows (short_or_plain c waiting word o h).0.rows
          go (Some flags) f =
              good_after waiting word (bundle c flags h).0 (bundle c flags h).1
              (good_bundle (length flags) flags h.skip plain (record h { skip = 0 }) f all)
          go None f = good_plain waiting word h all

      good_other : (names : Names) (met : Option Text) (waiting : Waiting) (position : ℕ) (word : Text) (s : Shape) (h : Held) → s.rules ≡ c
          → s.args_override_self ≡ false → other_fault s met word h ≡ [] → GoodRows h.rows
          → GoodRows (subcommand_or_other c met waiting position word h).0.rows
      good_other names (Some name) waiting position word s h own again f all = all
      good_other names None waiting position word s h own again f all = go (bytes_eq word (45 ∷ 45 ∷ [])) (rw (own, again) at f)
        where
          go : (b : Bool) → cond b [] (flag_word_fault c false (long_of word) word h) ≡ []
              → GoodRows (cond b (h, trailing position) (long_or_other c waiting word (long_of word) h)).0.rows
          go true f = all
          go false f = good_flag_word waiting word (long_of word) h f all

      good_word : (names : Names) (is_trailing : Bool) (waiting : Waiting) (position : ℕ) (word : Text) (s : Shape) (h : Held) → s.rules ≡ c
          → s.args_override_self ≡ false → word_fault s names is_trailing waiting word h ≡ [] → GoodRows h.rows
          → GoodRows (word_met c names is_trailing waiting position word h).0.rows
      good_word names true waiting position word s h own again f all = all
      good_word names false waiting position word s h own again f all =
          good_other names (subcommand_met names waiting word) waiting position word s h own again f all

      good_value : (o : Option Rule) (word : Text) (w : Walk) (h : Held) (stray : Kinds)
          → option_map_or (λ a. positional_fault c false a h) o stray ≡ [] → GoodRows h.rows
          → GoodRows (to_positional c o word w h).held.rows
      good_value None word w h stray f all = all
      good_value (Some a) word w h stray f all = go (is_pending a h.pending && takes_several a) f
        where
          go : (b : Bool) → cond b [] (settle_fault c false h) ≡ [] → GoodRows (cond b h (settled c h)).rows
          go true f = all
          go false f = good_settled h f all

      module _ (s : Shape) (own : s.rules ≡ c) (again : s.args_override_self ≡ false) (names : Names) where
        good_step_taken : (word : Text) (w : Walk) (h : Held) (step : Step) → step_fault s w.position h step ≡ [] → GoodRows h.rows
            → GoodRows (after_step c word w h step).held.rows
        good_step_taken word w h (next waiting) f all = all
        good_step_taken word w h (trailing position) f all = all
        good_step_taken word w h (subcommand name) f all = all
        good_step_taken word w h value f all =
            good_value (arg_by_index c w.position) word w h (stray_fault s) (rw (own, again) at f) all

        good_turn : (word : Text) (w : Walk) → turn_fault s names w word ≡ [] → GoodRows w.held.rows
            → GoodRows (walked c names w word).held.rows
        unfolding walked
        good_turn word w f all = go w.stopped f
          where
            met : Held × Step
            met = word_met s.rules names w.is_trailing w.waiting w.position word w.held

            go : (o : Option (Text × List Text))
                → cond (is_some o) [] (or_else (word_fault s names w.is_trailing w.waiting word w.held) (step_fault s w.position met.0 met.1)) ≡ []
                → GoodRows (walked_from c names o w word).held.rows
            go (Some p) f = all
            go None f =
                let two = none_of_both _ _ f in
                let met_by : List Rule → Held × Step = λ d. word_met d names w.is_trailing w.waiting w.position word w.held in
                let of_c = subst (λ (d : List Rule). step_fault s w.position (met_by d).0 (met_by d).1 ≡ []) own two.1 in
                let here : Held × Step = met_by c in
                good_step_taken word w here.0 here.1 of_c
                (good_word names w.is_trailing w.waiting w.position word s w.held own again two.0 all)

        good_walk : (words : List Text) (w : Walk) → walk_fault s names w words ≡ [] → GoodRows w.held.rows
            → GoodRows (fold (walked c names) w words).held.rows
        unfolding walk_fault
        good_walk [] w f all = all
        good_walk (word ∷ rest) w f all =
            let two = none_of_both _ _ f in
            good_walk rest (walked c names w word) (subst (λ (d : List Rule). walk_fault s names (walked d names w word) rest ≡ []) own two.1)
            (good_turn word w two.0 all)

      module _ (no_default : t.defaults ≡ []) where
        good_default : (a : Rule) (rows : List Row) → Fits a → GoodRows rows → GoodRows (with_default rows a)
        good_default a rows fits all = go (has_row a.id rows) refl
          where
            add : (values : List Text) → values ≡ a.defaults → has_row a.id rows ≡ false → GoodRows (default_rows a.id (reading_by a) values rows)
            add [] is none = all
            add (v ∷ vs) is none =
                good_added a DefaultValue (v ∷ vs) rows none
                (λ e. let bad : (v ∷ vs) ≡ [] = is ∙ (ap (λ (b : Rule). b.defaults) (fits.0 e) ∙ no_default) in cc) all

            go : (b : Bool) → has_row a.id rows ≡ b → GoodRows (cond b rows (default_rows a.id (reading_by a) a.defaults rows))
            go true e = all
            go false e = add a.defaults refl e

        good_defaults : (xs : List Rule) (rows : List Row) → AllByRecursion Fits xs → GoodRows rows → GoodRows (fold with_default rows xs)
        good_defaults [] rows fits all = all
        good_defaults (a ∷ xs) rows fits all = good_defaults xs (with_default rows a) fits.1 (good_default a rows fits.0 all)

-- an option that takes one value and has no default
pub record IsPlainOption (t : Rule) : Type 0 where
  pub one : unwrap_or_range t.range ≡ record { start_inclusive = 1; end_inclusive = 1 }
  pub no_default : t.defaults ≡ []

-- the rows of a level without a fault
module _ (t : Rule) (is_plain : IsPlainOption t) (s : Shape) (fit : AllByRecursion (Fits t) s.rules) (again : s.args_override_self ≡ false) where
  pub good_level : (names : Names) (words : List Text) (has : Bool) (below : Kinds) → level_fault s names nothing_held words has below ≡ []
      → GoodRows t (rows_after s.rules names words) × (check_fault s (rows_after s.rules names words) has ≡ [])
  good_level names words has below f =
      let end : Held = (walk s.rules names nothing_held words).held in
      let a = none_of_both _ _ f in
      let b = none_of_both _ _ a.1 in
      let d = none_of_both (settle_fault s.rules s.args_override_self end) _ b.1 in
      let e = none_of_both (defaults_fault (settled s.rules end).rows s.rules) _ d.1 in
      let held = good_walk t is_plain.one s.rules fit s refl again names words (walk_from nothing_held) a.0 tt in
      let used = good_settled t is_plain.one s.rules fit end (rw again at d.0) held in
      (good_defaults t is_plain.one s.rules fit is_plain.no_default s.rules (settled s.rules end).rows fit used, e.1)

text_in : (r : Row) (v : Text) (how : Reading) → r.values ≡ v ∷ [] → r.reading ≡ how → row_text r ≡ Some (read_as how v)
text_in r v how values reading = ap₂ (λ (vs : List Text) (h : Reading). option_map (read_as h) (slice_get vs 0)) values reading

-- what is given under t's id is one value, which t takes
pub given_good : (t : Rule) (rows : List Row) → GoodRows t rows → is_given t.id rows ≡ true
    → (v : Text) × (one_of t.id rows ≡ Some (read_as (reading_by t) v)) × (value_kinds t.ignore_case (parser_of_value t.parser) v ≡ [])
given_good t rows all given = go (find (λ r. bytes_eq r.id t.id) rows) (λ r is. found_has (Good t) (λ r. bytes_eq r.id t.id) rows r all is) given
  where
    go : (o : Option Row) → ((r : Row) → o ≡ Some r → Good t r × (bytes_eq r.id t.id ≡ true)) → option_map_or (λ r. explicit_source r.source) o false ≡ true
        → (v : Text) × (option_and_then row_text o ≡ Some (read_as (reading_by t) v)) × (value_kinds t.ignore_case (parser_of_value t.parser) v ≡ [])
    go None has g = cc
    go (Some r) has g =
        let both = has r refl in
        let one : Single t r = both.0 both.1 in
        (one.0, text_in r one.0 (reading_by t) one.1 one.3, one.2)

-- a text that is given under t's id is read from a value that t takes
pub taken_text : (t : Rule) (rows : List Row) (text : Text) → GoodRows t rows → one_of t.id rows ≡ Some text
    → (v : Text) × (read_as (reading_by t) v ≡ text) × (value_kinds t.ignore_case (parser_of_value t.parser) v ≡ [])
taken_text t rows text all given = go (find (λ r. bytes_eq r.id t.id) rows) (λ r is. found_has (Good t) (λ r. bytes_eq r.id t.id) rows r all is) given
  where
    go : (o : Option Row) → ((r : Row) → o ≡ Some r → Good t r × (bytes_eq r.id t.id ≡ true)) → option_and_then row_text o ≡ Some text
        → (v : Text) × (read_as (reading_by t) v ≡ text) × (value_kinds t.ignore_case (parser_of_value t.parser) v ≡ [])
    go None has g = cc
    go (Some r) has g =
        let both = has r refl in
        let one : Single t r = both.0 both.1 in
        let same : read_as (reading_by t) one.0 ≡ text =
        let same : Some (read_as (reading_by t) one.0) ≡ Some text = sym (text_in r one.0 (reading_by t) one.1 one.3) ∙ g in cc in
        (one.0, same, one.2)
