-- The profile by which a script is read: its first line that isn't skipped decides.
use Rattle.std.specs.Prelude.{ℕ, Bool, false, ◌&&◌, List, [], ◌∷◌, bytes_eq, codes}
use Rattle.text_core.specs.declared.command.Command.{Command}
use Rattle.text_core.specs.declared.command.Command.TheVariants.{Profile2}
use Rattle.text_core.specs.declared.profile.Profile.{Profile}
use Rattle.text_core.specs.declared.profile.Profile.TheVariants.{Untold, One, Two}

-- whether these are the words of `profile 2`, to the letter
abbrev pub is_profile_2 : List (List ℕ) → Bool
is_profile_2 (keyword ∷ number ∷ []) = bytes_eq keyword (codes "profile") && bytes_eq number (codes "2")
is_profile_2 _ = false

-- the profile after a command: where no line has decided yet, `profile 2` decides for profile 2, and any other command for profile 1
abbrev pub profile_told : Command → Profile → Profile
profile_told Profile2 Untold = Two
profile_told _ Untold = One
profile_told _ profile = profile
