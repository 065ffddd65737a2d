-- At words that the parser takes, the matches have what each subcommand of a program requires.
use Rattle.std.proofs.Common.{◌≡◌, ◌∙◌, ◌&&◌, ◌||◌, sym, subst, refl, true, false, not, ℕ, zero, suc, Bool, codes, cond, Option, Some, None, is_some}
use Rattle.std.proofs.Common.{option_map, true≢false, List, [], ◌∷◌}
use Rattle.std.specs.List.{AllByRecursion, find, list_all, list_any}
use Rattle.std.specs.Option.{option_map_or}
use Rattle.std.specs.Str.{bytes_eq}
use Rattle.std.proofs.lemmas.Slice.Eq.{bytes_eq-Decides}
use Rattle.clap.proofs.ValueTestLemmas.{accepts-Accepts}
use Rattle.clap.specs.Facts.{parser_of_value}
use Rattle.clap.specs.Faults.{check_fault, defaults_fault, entered_fault, level_fault, settle_fault, walk_fault}
use Rattle.clap.specs.Kinds.{check_kinds, value_kinds}
use Rattle.clap.specs.Simple.{App, Shape, argument_words, built, built_leaf, entered, filled, help_shape, inherited, is_simple, label_of, marked_built, names_of, rows_at, with_leaf_noted}
use Rattle.clap.specs.Takes.{is_given}
use Rattle.clap.specs.ValueTests.{accepts}
use Rattle.clap.specs.Values.{Accepts, IsUnsignedIn, refused_kind}
use Rattle.clap.specs.Walk.{Row, Rule, Text, Walk, action_of, answers_to, finished, nothing_held, rows_after, settled, walk, walk_from}
use Rattle.clap.specs.Words.{HasMatchesOf, fault_of, subcommand_of, subcommand_rows_of}
use Rattle.clap.specs.declared.builder.action.ArgAction.{ArgAction}
use Rattle.clap.specs.declared.builder.action.ArgAction.TheVariants.{Set, SetTrue, Help}
use Rattle.clap.specs.declared.builder.value_parser.ValueParser.{ValueParser}
use Rattle.clap.specs.declared.parser.matches.ArgMatches.{ArgMatches}
use Rattle.tw_options.specs.App.{number_rule}
use Rattle.tw_options.specs.Fit.{HasNumber, HasNumberIfGiven, IsFound}
use Rattle.tw_options.proofs.Kept.{Fits, GoodRows, IsPlain, IsPlainOption, given_good, good_level, taken_text}
use Rattle.tw_options.proofs.Passing.{found_has, none_of_both}
use Rattle.tw_options.proofs.Stop.{IsNoHelp, no_help}

-- ---- one level of the words

-- an option, as the parser builds it
abbrev pub option_rule : Text → Bool → ℕ → ℕ → Rule
option_rule id is_required least most = filled (number_rule id is_required least most)

-- the actions of our options and flags
abbrev is_plain : ArgAction → Bool
is_plain Set = true
is_plain SetTrue = true
is_plain Help = true
is_plain _ = false

plain : (t : Rule) (x : ArgAction) → is_plain x ≡ true → IsPlain t x
plain t Set h = tt
plain t SetTrue h = tt
plain t Help h = tt
plain t _ h = cc

-- a rule under another id than t's
abbrev pub is_beside : Rule → Rule → Bool
is_beside t a = not (bytes_eq a.id t.id) && is_plain (action_of a)

-- t stands at the place k, and all others are beside it
abbrev pub StandsAt : Rule → ℕ → List Rule → Type 0
StandsAt t k [] = ⊥
StandsAt t zero (a ∷ xs) = (a ≡ t) × (list_all (is_beside t) xs ≡ true)
StandsAt t (suc k) (a ∷ xs) = (is_beside t a ≡ true) × StandsAt t k xs

both : (a b : Bool) → (a && b) ≡ true → (a ≡ true) × (b ≡ true)
both true b h = (refl, h)
both false b h = cc

beside_fits : (t a : Rule) → is_beside t a ≡ true → Fits t a
beside_fits t a h = go (bytes_eq a.id t.id) refl h
  where
    go : (b : Bool) → bytes_eq a.id t.id ≡ b → (not b && is_plain (action_of a)) ≡ true → Fits t a
    go true e h = cc
    go false e h = ((λ same. absurd (true≢false (sym same ∙ e))), plain t (action_of a) h)

all_fit : (t : Rule) (xs : List Rule) → list_all (is_beside t) xs ≡ true → AllByRecursion (Fits t) xs
all_fit t [] h = tt
all_fit t (a ∷ xs) h =
    let two = both (is_beside t a) _ h in
    (beside_fits t a two.0, all_fit t xs two.1)

stands_fits : (t : Rule) → IsPlain t (action_of t) → (k : ℕ) (xs : List Rule) → StandsAt t k xs → AllByRecursion (Fits t) xs
stands_fits t own k [] at = absurd at
stands_fits t own zero (a ∷ xs) at = (rw at.0 ((λ _. refl), own), all_fit t xs at.1)
stands_fits t own (suc k) (a ∷ xs) at = (beside_fits t a at.0, stands_fits t own k xs at.1)

-- what is required and not given is a fault
none_wanted : (help wanted negates any : Bool) → check_kinds help wanted (not (negates && false) && any) ≡ [] → any ≡ false
none_wanted true w n any h = cc
none_wanted false true n any h = cc
none_wanted false false true true h = cc
none_wanted false false true false h = refl
none_wanted false false false true h = cc
none_wanted false false false false h = refl

given_at : (rows : List Row) (t : Rule) → t.required ≡ true → (k : ℕ) (xs : List Rule) → StandsAt t k xs
    → list_any (λ a. a.required && not (is_given a.id rows)) xs ≡ false → is_given t.id rows ≡ true
given_at rows t required k [] at none = absurd at
given_at rows t required zero (a ∷ xs) at none = go (is_given t.id rows) (rw (at.0, required) at none)
  where
    go : (b : Bool) → ((true && not b) || list_any (λ a. a.required && not (is_given a.id rows)) xs) ≡ false → b ≡ true
    go true h = refl
    go false h = cc
given_at rows t required (suc k) (a ∷ xs) at none = given_at rows t required k xs at.1 (rest _ _ none)
  where
    rest : (a b : Bool) → (a || b) ≡ false → b ≡ false
    rest true b h = cc
    rest false b h = h

-- a value without a fault is taken
accepted : (ignore_case : Bool) (p : ValueParser) (v : Text) → value_kinds ignore_case p v ≡ [] → Accepts ignore_case p v
accepted i p v h = accepts-Accepts i p v (go (accepts i p v) h)
  where
    go : (b : Bool) → cond b [] (refused_kind p ∷ []) ≡ [] → b ≡ true
    go true h = refl
    go false h = cc

-- the rows of a subcommand whose words have no fault
module _ (s : Shape) (again : s.args_override_self ≡ false) (words : List Text) (f : level_fault s [] nothing_held words false [] ≡ []) where
  good : (t : Rule) → IsPlainOption t → IsPlain t (action_of t) → (k : ℕ) → StandsAt t k s.rules
      → GoodRows t (rows_after s.rules [] words) × (check_fault s (rows_after s.rules [] words) false ≡ [])
  good t option own k at = good_level t option s (stands_fits t own k s.rules at) again [] words false [] f

  -- a number that is required was given, in its range
  pub has_number : (id : Text) (least most k : ℕ) → StandsAt (option_rule id true least most) k s.rules
      → HasNumber id least most (rows_after s.rules [] words)
  has_number id least most k at =
      let t = option_rule id true least most in
      let rows = rows_after s.rules [] words in
      let all = good t (record { one = refl; no_default = refl }) tt k at in
      let given = given_at rows t refl k s.rules at (none_wanted _ _ s.subcommand_negates_reqs _ all.1) in
      let g = given_good t rows all.0 given in
      (g.0, g.1, accepted t.ignore_case (parser_of_value t.parser) g.0 g.2)

  -- a number that may be left out is in its range where it was given
  pub has_number_if_given : (id : Text) (least most k : ℕ) → StandsAt (option_rule id false least most) k s.rules
      → HasNumberIfGiven id least most (rows_after s.rules [] words)
  has_number_if_given id least most k at text given =
      let t = option_rule id false least most in
      let rows = rows_after s.rules [] words in
      let all = good t (record { one = refl; no_default = refl }) tt k at in
      let g = taken_text t rows text all.0 given in
      subst (IsUnsignedIn least most) g.1 (accepted t.ignore_case (parser_of_value t.parser) g.0 g.2)

-- ---- the subcommands of a program

pub differ : (a b : Text) → bytes_eq a b ≡ false → a ≡ b → ⊥
differ a b h e = true≢false (sym ((bytes_eq-Decides a b).1 e) ∙ h)

-- a word that names `help` is `help`
not_both : (word : Text) → answers_to word (label_of (built_leaf help_shape)) ≡ true → bytes_eq word (codes "help") ≡ false → ⊥
not_both word named other = go (bytes_eq (codes "help") word) refl named
  where
    go : (b : Bool) → bytes_eq (codes "help") word ≡ b → (b || false) ≡ true → ⊥
    go true e h = differ word (codes "help") other (sym ((bytes_eq-Decides (codes "help") word).0 e))
    go false e h = true≢false (sym h)

-- a subcommand of a program, as the parser builds it
abbrev pub leaf : App → Shape → Shape
leaf own s = built_leaf (inherited (with_leaf_noted (marked_built own.top)) s)

-- words without a fault behind the name of the subcommand, which is not `help`, give it rows that fit
abbrev pub LevelFits : (Text → List Row → Type 0) → Shape → Type 0
LevelFits P s = (name : Text) (words : List Text) → answers_to name (label_of s) ≡ true → bytes_eq name (codes "help") ≡ false
    → level_fault s [] nothing_held words false [] ≡ [] → P s.name (rows_after s.rules [] words)

pub help_fits : (P : Text → List Row → Type 0) → LevelFits P (built_leaf help_shape)
help_fits P name words named other f = absurd (not_both name named other)

-- a program that asks for a subcommand, and whose subcommands fit
module _ (own : App) (P : Text → List Row → Type 0) (fit : AllByRecursion (LevelFits P) (built own).subs)
    (offers : (built own).top.disable_help_subcommand ≡ false) (asks : (built own).top.subcommand_required ≡ true) where
  wanted : (rows : List Row) (has : Bool) → check_fault (built own).top rows has ≡ [] → has ≡ true
  wanted rows true f = refl
  wanted rows false f = absurd (no _ (not ((built own).top.subcommand_negates_reqs && false)
      && list_any (λ a. a.required && not (is_given a.id rows)) (built own).top.rules) (rw asks at f))
    where
      no : (a c : Bool) → check_kinds a true c ≡ [] → ⊥
      no true c h = cc
      no false c h = cc

  stop_fit : (o : Option (Text × List Text)) → IsNoHelp o → entered_fault (built own) o ≡ [] → is_some (entered (built own) o) ≡ true
      → IsFound P (entered (built own) o)
  stop_fit None other f has = cc
  stop_fit (Some p) other f has =
      go (find (λ s. answers_to p.0 (label_of s)) (built own).subs)
      (λ s is. found_has (LevelFits P) (λ s. answers_to p.0 (label_of s)) (built own).subs s fit is) f has
    where
      go : (o : Option Shape) → ((s : Shape) → o ≡ Some s → LevelFits P s × (answers_to p.0 (label_of s) ≡ true))
          → option_map_or (λ s. level_fault s [] nothing_held p.1 false []) o [] ≡ [] → is_some (option_map (λ s. rows_at s p.1) o) ≡ true
          → IsFound P (option_map (λ s. rows_at s p.1) o)
      go None found f has = cc
      go (Some s) found f has =
          let here = found s refl in
          here.0 p.0 p.1 here.1 other f

  -- what the parser finds at words without a fault
  fits : (words : List Text) → fault_of own words ≡ [] → IsFound P (subcommand_of own words)
  fits words f =
      let b : App = built own in
      let rest : List Text = argument_words own words in
      let end : Walk = walk b.top.rules (names_of b) nothing_held rest in
      let a = none_of_both (walk_fault b.top (names_of b) (walk_from nothing_held) rest) _ f in
      let d = none_of_both (entered_fault b end.stopped) _ a.1 in
      let e = none_of_both (settle_fault b.top.rules b.top.args_override_self end.held) _ d.1 in
      let g = none_of_both (defaults_fault (settled b.top.rules end.held).rows b.top.rules) _ e.1 in
      let has = wanted (finished b.top.rules end.held) (is_some (entered b end.stopped)) g.1 in
      stop_fit end.stopped (no_help b.top offers (names_of b) rest (walk_from nothing_held) a.0 tt) d.0 has

  module _ (simple : is_simple own ≡ true) (a : App) (words : List Text) (m : ArgMatches) (is : a ≡ own) (has : HasMatchesOf a words m) where
    here : subcommand_rows_of m ≡ subcommand_of own words
    here = (subst (λ (b : App). HasMatchesOf b words m) is has simple).1

    -- what the parser matched by the program's command has what each subcommand requires
    pub matches_fit : fault_of own words ≡ [] → IsFound P (subcommand_rows_of m)
    matches_fit none = subst (IsFound P) (sym here) (fits words none)

    -- what the matches say, the words say
    pub words_say : (Says : Option (Text × List Row) → Type 0) → Says (subcommand_rows_of m) → Says (subcommand_of own words)
    words_say Says said = subst Says here said
