-- What contracts see of the fields of `Frames`, and what is true of these fields.
use Rattle.std.specs.Prelude.{◌≡◌, ℕ, ◌<◌, ◌≤◌, ◌*◌, length, true, false, slice_get, Some}
use Rattle.std.specs.FinSet as set
use Rattle.frame_core.specs.declared.state.FrameState.TheVariants.{Free}
use Rattle.scan_core.specs.FrameCounts.{CountsEach}
use Rattle.scan_core.specs.Frames.{Frames, blocks_of, free_at, huge_at, source_at, stuck_at}
use Rattle.scan_core.specs.Seen.{seen}
use Rattle.scan_core.specs.declared.frames.Frames.TheInside.{Inside}

-- the lists that contracts see
abbrev pub frames_of : Inside → Frames
frames_of z = record { states = seen z.held.members z.kept.items; movable = z.movable.items; unmovable = z.free.unmovable }

-- there are whole pageblocks, each frame of which has a number, and the sets and counts have the frames that they should
pub record IsSound (z : Inside) : Type 0 where
  pub whole : length z.kept.items ≡ 512 * blocks_of z.kept.items
  pub some : 0 < blocks_of z.kept.items
  pub few : length z.kept.items ≤ 16777216
  pub movable : length z.movable.items ≡ length z.kept.items
  pub never_huge : (frame : ℕ) → huge_at z.kept.items frame ≡ false
  pub held : (frame : ℕ) → set.contains z.held.members frame ≡ true → slice_get z.kept.items frame ≡ Some Free
  pub held_room : length z.kept.items ≤ z.held.bound
  pub free : (frame : ℕ) → set.contains z.free.members frame ≡ free_at (seen z.held.members z.kept.items) frame
  pub free_room : z.free.bound ≡ length z.kept.items
  pub sources : (frame : ℕ) → set.contains z.candidates.sources.members frame ≡ source_at (seen z.held.members z.kept.items) z.movable.items frame
  pub sources_room : length z.kept.items ≤ z.candidates.sources.bound
  pub stuck : CountsEach z.candidates.stuck (stuck_at (seen z.held.members z.kept.items) z.movable.items)
  pub stuck_blocks : length z.candidates.stuck ≡ blocks_of z.kept.items
