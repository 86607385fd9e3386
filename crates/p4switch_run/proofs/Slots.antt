-- The switch of a command starts with the slots that the profile has.
use Rattle.std.proofs.Common.{◌≡◌, ℕ, Bool, true, false, cond, List, [], ◌∷◌, Option, Some, None, refl}
use Rattle.std.specs.Option.{option_map, option_and_then}
use Rattle.std.specs.Str.{bytes_eq}
use Rattle.std.specs.Prelude.{codes}
use Rattle.command_words.specs.declared.words.Command.{Command}
use Rattle.command_words.specs.declared.words.Command.TheVariants as commands
use Rattle.command_words.specs.declared.words.Settings.{Settings}
use Rattle.command_words.specs.declared.words.Verb.TheVariants as verbs
use Rattle.command_words.specs.Words.{replay_of, serve_at, check_of, gen_of, command_named, command_of, settings_from, nothing_given, in_range, number_of}
use Rattle.p4switch_run.specs.Words.{job_for, HasSlots}

of_replay : (s : Option Settings) → HasSlots (job_for (option_map replay_of s))
of_replay None = tt
of_replay (Some s) = refl

at_port : (port : Option ℕ) (s : Settings) → HasSlots (job_for (serve_at port s))
at_port None s = tt
at_port (Some port) s = refl

of_serve : (s : Option Settings) → HasSlots (job_for (option_and_then (λ s. serve_at s.port s) s))
of_serve None = tt
of_serve (Some s) = at_port s.port s

of_check : (words : List (List ℕ)) → HasSlots (job_for (check_of words))
of_check [] = tt
of_check (word ∷ words) = tt

of_number : (number : Option ℕ) → HasSlots (job_for (option_map commands.Gen number))
of_number None = tt
of_number (Some number) = tt

of_gen : (words : List (List ℕ)) → HasSlots (job_for (gen_of words))
of_gen [] = tt
of_gen (word ∷ []) = of_number (in_range 1 64 (number_of word))
of_gen (word ∷ other ∷ words) = tt

by_name : (a b c d : Bool) (replay serve check gen : Option Command) → HasSlots (job_for replay) → HasSlots (job_for serve) → HasSlots (job_for check) → HasSlots (job_for gen)
    → HasSlots (job_for (cond a replay (cond b serve (cond c check (cond d gen None)))))
by_name true b c d replay serve check gen r s h g = r
by_name false true c d replay serve check gen r s h g = s
by_name false false true d replay serve check gen r s h g = h
by_name false false false true replay serve check gen r s h g = g
by_name false false false false replay serve check gen r s h g = tt

pub has_slots : (words : List (List ℕ)) → HasSlots (job_for (command_of words))
has_slots [] = tt
has_slots (name ∷ words) =
    by_name (bytes_eq name (codes "replay")) (bytes_eq name (codes "serve")) (bytes_eq name (codes "check")) (bytes_eq name (codes "gen")) _ _ _ _ (of_replay (settings_from verbs.Replay nothing_given words))
    (of_serve (settings_from verbs.Serve nothing_given words)) (of_check words) (of_gen words)
