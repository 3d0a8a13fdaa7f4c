-- The line of a reply.
use Rattle.std.specs.Prelude.{◌≡◌, ℕ, Bool, List, [], ◌∷◌, ◌++◌, length, flat_map, codes, decimal, count_by, nat_eq, if◌then◌else◌}
use Rattle.state_core.specs.declared.information.Look.{Look}
use Rattle.state_core.specs.declared.information.Look.TheVariants.{At, Moving}
use Rattle.frame_core.specs.PageFlags.{is_unmovable, is_dirty}
use Rattle.state_core.specs.declared.information.Info.{Info}
use Rattle.text_core.specs.declared.pool.PoolBlocks.{PoolBlocks}
use Rattle.text_core.specs.declared.pool.PoolBlocks.TheVariants.{Pageblocks, OfOrder}
use Rattle.text_core.specs.declared.pool.PoolStopped.{PoolStopped}
use Rattle.text_core.specs.declared.pool.PoolStopped.TheVariants as pool
use Rattle.text_core.specs.declared.reply.Reply.{Reply}
use Rattle.text_core.specs.declared.reply.Reply.TheVariants as reply
use Rattle.text_core.specs.declared.reply.Stopped.{Stopped}
use Rattle.text_core.specs.declared.reply.Stopped.TheVariants as stopped

-- the number of newlines in a text
abbrev pub newlines : List ℕ → ℕ
newlines bytes = count_by (λ byte. nat_eq byte 10) bytes

-- the counts of a zone, without a newline
abbrev pub counts_text : Info → List ℕ
counts_text i = codes "free=" ++ decimal i.free ++ codes " pages=" ++ decimal i.pages ++ codes " moving=" ++ decimal i.moving
    ++ codes " huge=" ++ decimal i.huge ++ codes " whole=" ++ decimal i.whole

-- the text of a flag: 1 where it is set, and 0 where not
abbrev pub flag_text : Bool → List ℕ
flag_text b = decimal (if b then 1 else 0)

-- the text of how many pins a page has, and of how many addresses name it
abbrev pub uses_text : ℕ → ℕ → List ℕ
uses_text pins maps = codes " pins=" ++ decimal pins ++ codes " maps=" ++ decimal maps

-- what is known of a page, without a newline
abbrev pub look_text : Look → List ℕ
look_text (At frame flags pins maps) =
    codes "frame=" ++ decimal frame ++ codes " dirty=" ++ flag_text (is_dirty flags)
    ++ codes " unmovable=" ++ flag_text (is_unmovable flags) ++ uses_text pins maps
look_text (Moving serial pins maps) = codes "moving serial=" ++ decimal serial ++ uses_text pins maps

-- the text of why a round stopped
abbrev pub stopped_text : Stopped → List ℕ
stopped_text stopped.Met = codes " stopped=met"
stopped_text stopped.JournalFull = codes " stopped=journalfull"

-- how many pages a round isolated, moved and put back, and why it stopped, without a newline
abbrev pub round_text : ℕ → ℕ → ℕ → Stopped → List ℕ
round_text isolated moved back why =
    codes "isolated=" ++ decimal isolated ++ codes " moved=" ++ decimal moved ++ codes " back=" ++ decimal back ++ stopped_text why

-- the text of why a pool stopped
abbrev pub pool_stopped_text : PoolStopped → List ℕ
pool_stopped_text pool.Enough = codes " stopped=enough"
pool_stopped_text pool.NoBlock = codes " stopped=noblock"
pool_stopped_text pool.Rounds = codes " stopped=rounds"
pool_stopped_text pool.JournalFull = codes " stopped=journalfull"
pool_stopped_text (pool.Refused k) = codes " stopped=" ++ decimal k

-- what the numbers of a pool's blocks are: those of pageblocks, or first frames
abbrev pub pool_name : PoolBlocks → List ℕ
pool_name Pageblocks = codes " blocks="
pool_name (OfOrder order) = codes " frames="

-- numbers with a comma before each
abbrev pub after_commas : List ℕ → List ℕ
after_commas numbers = flat_map (λ n. codes "," ++ decimal n) numbers

-- numbers with commas between them, or a dash where there are none
abbrev pub numbers_text : List ℕ → List ℕ
numbers_text [] = codes "-"
numbers_text (first ∷ more) = decimal first ++ after_commas more

-- the number of a pool's blocks, its rounds, why it stopped, and its blocks in the order in which it got them, without a newline
abbrev pub pool_text : PoolBlocks → List ℕ → ℕ → PoolStopped → List ℕ
pool_text blocks got rounds why =
    codes "got=" ++ decimal (length got) ++ codes " rounds=" ++ decimal rounds ++ pool_stopped_text why
    ++ pool_name blocks ++ numbers_text got

-- the line of a reply, with its newline; cause 1 means that the page has a pin
abbrev pub text_of : Reply → List ℕ
text_of reply.Done = codes "ok\n"
text_of (reply.Value x) = codes "value=" ++ decimal x ++ codes "\n"
text_of (reply.Info i) = counts_text i ++ codes "\n"
text_of (reply.InfoWithHeld i) = counts_text i ++ codes " held=" ++ decimal i.held ++ codes "\n"
text_of (reply.Serial n) = codes "serial=" ++ decimal n ++ codes "\n"
text_of reply.Met = codes "met\n"
text_of (reply.Moved n) = codes "moved serial=" ++ decimal n ++ codes "\n"
text_of (reply.PutBack n) = codes "back serial=" ++ decimal n ++ codes " cause=1\n"
text_of (reply.Shut n) = codes "back=" ++ decimal n ++ codes "\n"
text_of (reply.Looked l) = look_text l ++ codes "\n"
text_of (reply.Block b) = codes "block=" ++ decimal b ++ codes "\n"
text_of (reply.HandedOut f k) = codes "frame=" ++ decimal f ++ codes " order=" ++ decimal k ++ codes "\n"
text_of (reply.AllDone m) = codes "done=" ++ decimal m ++ codes "\n"
text_of (reply.DoneUntil m k) = codes "done=" ++ decimal m ++ codes " refused=" ++ decimal k ++ codes "\n"
text_of (reply.Round i m b s) = round_text i m b s ++ codes "\n"
text_of (reply.Pool blocks got rounds s) = pool_text blocks got.items rounds s ++ codes "\n"
text_of (reply.Refused k) = codes "refused " ++ decimal k ++ codes "\n"

-- a text has one newline, which is its end
pub record IsOneLine (text : List ℕ) : Type 0 where
  pub body : List ℕ
  pub ends : text ≡ body ++ 10 ∷ []
  pub one : newlines body ≡ 0
