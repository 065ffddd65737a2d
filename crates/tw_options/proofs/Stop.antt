-- A parse that finds no fault does not stop at the subcommand `help`.
use Rattle.std.proofs.Common.{◌≡◌, ◌&&◌, ℕ, refl, true, false, not, Bool, cond, codes, Option, Some, None, is_some, List, [], ◌∷◌}
use Rattle.std.specs.List.{fold}
use Rattle.std.specs.Str.{bytes_eq}
use Rattle.clap.specs.Faults.{other_fault, step_fault, turn_fault, walk_fault, word_fault}
use Rattle.clap.specs.Kinds.{or_else}
use Rattle.clap.specs.Lexer.{long_of, short_of}
use Rattle.clap.specs.Simple.{Shape}
use Rattle.clap.specs.Walk.{Held, Names, Outcome, Rule, Step, Text, Waiting, Walk, after_flag, after_step, arg_by_index, arg_by_long, bundle, done, idle}
use Rattle.clap.specs.Walk.{long_met, long_or_other, next, option, plain, plain_word, positional, refused, short_or_plain, subcommand, subcommand_met}
use Rattle.clap.specs.Walk.{subcommand_or_other, to_positional, trailing, value, waits, walked, walked_from, word_met}
use Rattle.clap.specs.declared.error.kind.ErrorKind.TheVariants as kind
use Rattle.tw_options.proofs.Passing.{none_of_both}

-- the walk did not stop at `help`
abbrev pub IsNoHelp : Option (Text × List Text) → Type 0
IsNoHelp None = Unit {0}
IsNoHelp (Some p) = bytes_eq p.0 (codes "help") ≡ false

abbrev NamesNoHelp : Step → Type 0
NamesNoHelp (subcommand name) = bytes_eq name (codes "help") ≡ false
NamesNoHelp _ = Unit {0}

module _ (c : List Rule) where
  after_plain : (waiting : Waiting) (word : Text) (h : Held) → NamesNoHelp (plain_word c waiting word h).1
  after_plain idle word h = tt
  after_plain (option id) word h = tt
  after_plain positional word h = tt

  after_outcome : (waiting : Waiting) (word : Text) (h : Held) (o : Outcome) → NamesNoHelp (after_flag c waiting word h o).1
  after_outcome waiting word h done = tt
  after_outcome waiting word h (waits id) = tt
  after_outcome waiting word h plain = after_plain waiting word h
  after_outcome waiting word h refused = after_plain waiting word h

  after_bundle : (waiting : Waiting) (word : Text) (o : Option Text) (h : Held) → NamesNoHelp (short_or_plain c waiting word o h).1
  after_bundle waiting word (Some flags) h = after_outcome waiting word (bundle c flags h).0 (bundle c flags h).1
  after_bundle waiting word None h = after_plain waiting word h

  after_word : (waiting : Waiting) (word : Text) (o : Option (Text × Option Text)) (h : Held) → NamesNoHelp (long_or_other c waiting word o h).1
  after_word waiting word (Some p) h =
      after_outcome waiting word (long_met c (arg_by_long c p.0) p.1 h).0 (long_met c (arg_by_long c p.0) p.1 h).1
  after_word waiting word None h = after_bundle waiting word (short_of word) h

  after_value : (o : Option Rule) (word : Text) (w : Walk) (h : Held) → IsNoHelp w.stopped → IsNoHelp (to_positional c o word w h).stopped
  after_value None word w h before = before
  after_value (Some a) word w h before = tt

  stop_at : (word : Text) (w : Walk) (h : Held) (step : Step) → NamesNoHelp step → IsNoHelp w.stopped → IsNoHelp (after_step c word w h step).stopped
  stop_at word w h (next waiting) names before = before
  stop_at word w h (trailing position) names before = before
  stop_at word w h (subcommand name) names before = names
  stop_at word w h value names before = after_value (arg_by_index c w.position) word w h before

module _ (s : Shape) (offers : s.disable_help_subcommand ≡ false) (names : Names) where
  met_name : (name word : Text) (h : Held) → other_fault s (Some name) word h ≡ [] → bytes_eq name (codes "help") ≡ false
  met_name name word h f = go (bytes_eq name (codes "help")) (rw offers at f)
    where
      go : (b : Bool) → cond (b && not false) (kind.DisplayHelp ∷ kind.InvalidSubcommand ∷ []) [] ≡ [] → b ≡ false
      go true f = cc
      go false f = refl

  met_other : (o : Option Text) (waiting : Waiting) (position : ℕ) (word : Text) (h : Held) → other_fault s o word h ≡ []
      → NamesNoHelp (subcommand_or_other s.rules o waiting position word h).1
  met_other (Some name) waiting position word h f = met_name name word h f
  met_other None waiting position word h f = go (bytes_eq word (45 ∷ 45 ∷ []))
    where
      go : (b : Bool) → NamesNoHelp (cond b (h, trailing position) (long_or_other s.rules waiting word (long_of word) h)).1
      go true = tt
      go false = after_word s.rules waiting word (long_of word) h

  met : (is_trailing : Bool) (waiting : Waiting) (position : ℕ) (word : Text) (h : Held) → word_fault s names is_trailing waiting word h ≡ []
      → NamesNoHelp (word_met s.rules names is_trailing waiting position word h).1
  met true waiting position word h f = tt
  met false waiting position word h f = met_other (subcommand_met names waiting word) waiting position word h f

  turn : (word : Text) (w : Walk) → turn_fault s names w word ≡ [] → IsNoHelp w.stopped → IsNoHelp (walked s.rules names w word).stopped
  unfolding walked
  turn word w f before = go w.stopped refl f before
    where
      here : Held × Step
      here = word_met s.rules names w.is_trailing w.waiting w.position word w.held

      go : (o : Option (Text × List Text)) → w.stopped ≡ o
          → cond (is_some o) [] (or_else (word_fault s names w.is_trailing w.waiting word w.held) (step_fault s w.position here.0 here.1)) ≡ []
          → IsNoHelp o → IsNoHelp (walked_from s.rules names o w word).stopped
      go (Some p) is f before = before
      go None is f none =
          stop_at s.rules word w here.0 here.1 (met w.is_trailing w.waiting w.position word w.held (none_of_both _ _ f).0)
          before

  pub no_help : (words : List Text) (w : Walk) → walk_fault s names w words ≡ [] → IsNoHelp w.stopped
      → IsNoHelp (fold (walked s.rules names) w words).stopped
  unfolding walk_fault
  no_help [] w f before = before
  no_help (word ∷ rest) w f before =
      let two = none_of_both _ _ f in
      no_help rest (walked s.rules names w word) two.1 (turn word w two.0 before)
