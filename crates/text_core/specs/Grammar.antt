-- The commands of the language: the row of each says what stands in its line, and what command that makes.
use Rattle.std.specs.Prelude.{ℕ, Bool, true, false, ◌&&◌, List, [], ◌∷◌, nat_lt, nat_le, Option, Some, None, option_map, if◌then◌else◌, nat_eq}
use Rattle.std.specs.Option.{option_or}
use Rattle.frame_core.specs.declared.place.Address.{Address}
use Rattle.state_core.specs.declared.call.ZoneCall.{ZoneCall}
use Rattle.state_core.specs.declared.call.ZoneCall.TheVariants as zone_call
use Rattle.text_core.specs.declared.token.Token.{Token}
use Rattle.text_core.specs.declared.token.Token.TheVariants.{Number, Zone, Map, MapAt, Store, Load, Info, Unmovable, Scan, Take, Copy, Finish, Shut, Look, Share, Unmap, Pin, Unpin, Huge, Give, Fill, Thin, Mark, Unmark, Compact, Pool, During, End}
use Rattle.text_core.specs.declared.command.Call.{Call}
use Rattle.text_core.specs.declared.command.Call.TheVariants as call
use Rattle.text_core.specs.declared.command.BlockLine.{BlockLine}
use Rattle.text_core.specs.declared.command.BlockLine.TheVariants as block_line
use Rattle.text_core.specs.declared.command.Calls.{Calls}
use Rattle.text_core.specs.declared.command.Calls.TheVariants.{Zone as OfZone, One, Series as SeriesOf}
use Rattle.text_core.specs.declared.command.Series.{Series}
use Rattle.text_core.specs.declared.command.Repeated.{Repeated}
use Rattle.text_core.specs.declared.command.Repeated.TheVariants as repeated
use Rattle.text_core.specs.declared.command.Command.{Command}
use Rattle.text_core.specs.declared.command.Command.TheVariants.{Open, On, Compact as RoundOn, Pool as PoolOn, OutOfRange, During as RoundBeside}
use Rattle.text_core.specs.declared.pool.PoolBlocks.{PoolBlocks}
use Rattle.text_core.specs.declared.pool.PoolBlocks.TheVariants.{Pageblocks, OfOrder}
use Rattle.text_core.specs.declared.profile.Profile.{Profile}
use Rattle.text_core.specs.declared.profile.Profile.TheVariants.{Two}

-- a number, where it is below a bound
abbrev pub below : ℕ → ℕ → Option ℕ
below bound n = if nat_lt n bound then Some n else None

-- a number, where it is from 1 to a bound
abbrev pub up_to : ℕ → ℕ → Option ℕ
up_to most n = if nat_le 1 n && nat_le n most then Some n else None

-- the number of a zone, 0 to 3
abbrev pub zone_of : ℕ → Option ℕ
zone_of n = below 4 n

-- the number of a frame, 0 to 4095
abbrev pub frame_of : ℕ → Option ℕ
frame_of n = below 4096 n

-- the number of a word of a page, 0 to 7
abbrev pub word_of : ℕ → Option ℕ
word_of n = below 8 n

-- a number of blocks, 1 to 8: of a zone's pageblocks, or of the blocks that a pool is asked for
abbrev pub blocks_of : ℕ → Option ℕ
blocks_of n = up_to 8 n

-- the number of a pageblock, 0 to 7
abbrev pub pageblock_of : ℕ → Option ℕ
pageblock_of n = below 8 n

-- the order of a block, 3 to 9
abbrev pub order_of : ℕ → Option ℕ
order_of n = if nat_le 3 n && nat_le n 9 then Some n else None

-- the number of a hand, 1 to 4
abbrev pub hand_of : ℕ → Option ℕ
hand_of n = up_to 4 n

-- the number of a space, 0 to 7
abbrev pub space_of : ℕ → Option ℕ
space_of n = below 8 n

-- the number of pages that a series of calls is for, 0 to 4096
abbrev pub page_count_of : ℕ → Option ℕ
page_count_of n = below 4097 n

-- virtual page v of space s, where both are in their ranges
abbrev pub address_of : ℕ → ℕ → Option Address
address_of s v = if nat_lt s 8 && nat_lt v 4096 then Some (record { space = s; vpage = v }) else None

-- a map, where its address is in range
abbrev pub map_call : Option Address → Bool → Option (ZoneCall 8)
map_call (Some a) unmovable = Some (zone_call.Map a unmovable)
map_call None unmovable = None

-- a map into a frame, where its address and its frame are in range
abbrev pub map_at_call : Option Address → Option ℕ → Bool → Option (ZoneCall 8)
map_at_call (Some a) (Some f) unmovable = Some (zone_call.MapAt a unmovable f)
map_at_call _ _ unmovable = None

-- a store, where its address and its word are in range
abbrev pub store_call : Option Address → Option ℕ → ℕ → Option (ZoneCall 8)
store_call (Some a) (Some w) value = Some (zone_call.Store a w value)
store_call _ _ value = None

-- a load, where its address and its word are in range
abbrev pub load_call : Option Address → Option ℕ → Option (ZoneCall 8)
load_call (Some a) (Some w) = Some (zone_call.Load a w)
load_call _ _ = None

-- a share, where both of its addresses are in range
abbrev pub share_call : Option Address → Option Address → Option (ZoneCall 8)
share_call (Some a) (Some alias) = Some (zone_call.Share a alias)
share_call _ _ = None

-- the giving back of a block, where its first frame and its order are in range
abbrev pub give_order_call : Option ℕ → Option ℕ → Option (ZoneCall 8)
give_order_call (Some first) (Some order) = Some (zone_call.GiveOrder first order)
give_order_call _ _ = None

-- a series of calls, where its space and its number of pages are in range; its first page and its step may be any numbers
abbrev pub series_of : Repeated → Option ℕ → ℕ → Option ℕ → ℕ → Option Series
series_of c (Some s) first (Some n) step = Some (record { call = c; space = s; first = first; count = n; step = step })
series_of c _ first _ step = None

-- the opening of a zone, or OutOfRange where an argument is out of its range
abbrev pub opening : Option ℕ → Option ℕ → Command
opening (Some z) (Some b) = Open z b
opening _ _ = OutOfRange

-- a round over a zone, or OutOfRange where the number of the zone is out of its range
abbrev pub compacting : Option ℕ → Command
compacting (Some z) = RoundOn z
compacting None = OutOfRange

-- a pool of blocks of a zone, or OutOfRange where an argument is out of its range
abbrev pub pooling : Option ℕ → Option ℕ → Option PoolBlocks → Command
pooling (Some z) (Some n) (Some blocks) = PoolOn z n blocks
pooling _ _ _ = OutOfRange

-- calls on a zone, or OutOfRange where an argument is out of its range
abbrev pub calls_on : Option ℕ → Option Calls → Command
calls_on (Some z) (Some c) = On z c
calls_on _ _ = OutOfRange

-- one call on a zone, or OutOfRange where an argument is out of its range
abbrev pub call_on : Option ℕ → Option Call → Command
call_on z c = calls_on z (option_map One c)

-- one call that a zone answers by itself, or OutOfRange where an argument is out of its range
abbrev pub zone_call_on : Option ℕ → Option (ZoneCall 8) → Command
zone_call_on z c = calls_on z (option_map OfZone c)

-- a series of calls on a zone, or OutOfRange where an argument is out of its range
abbrev pub series_on : Option ℕ → Option Series → Command
series_on z s = calls_on z (option_map SeriesOf s)

-- the calls that a client may make: None where there is no such row, Some None where an argument is out of its range
abbrev pub client_row : Token → List Token → Option (Option (ZoneCall 8))
client_row Map (Number s ∷ Number v ∷ []) = Some (map_call (address_of s v) false)
client_row Map (Number s ∷ Number v ∷ Unmovable ∷ []) = Some (map_call (address_of s v) true)
client_row MapAt (Number s ∷ Number v ∷ Number f ∷ []) = Some (map_at_call (address_of s v) (frame_of f) false)
client_row MapAt (Number s ∷ Number v ∷ Number f ∷ Unmovable ∷ []) = Some (map_at_call (address_of s v) (frame_of f) true)
client_row Store (Number s ∷ Number v ∷ Number w ∷ Number x ∷ []) = Some (store_call (address_of s v) (word_of w) x)
client_row Load (Number s ∷ Number v ∷ Number w ∷ []) = Some (load_call (address_of s v) (word_of w))
client_row Share (Number s ∷ Number v ∷ Number s2 ∷ Number v2 ∷ []) = Some (share_call (address_of s v) (address_of s2 v2))
client_row Unmap (Number s ∷ Number v ∷ []) = Some (option_map zone_call.Unmap (address_of s v))
client_row Pin (Number s ∷ Number v ∷ []) = Some (option_map zone_call.Pin (address_of s v))
client_row Unpin (Number s ∷ Number v ∷ []) = Some (option_map zone_call.Unpin (address_of s v))
client_row _ _ = None

-- the command that a keyword, a zone and the arguments after it make by the rows that both profiles have, if there is such a row
abbrev pub row_of : Token → Option ℕ → List Token → Option Command
row_of Zone z (Number b ∷ []) = Some (opening z (blocks_of b))
row_of Info z [] = Some (call_on z (Some call.Info))
row_of Scan z [] = Some (call_on z (Some call.Scan))
row_of Take z (Number k ∷ []) = Some (call_on z (option_map call.Take (hand_of k)))
row_of Copy z (Number k ∷ []) = Some (call_on z (option_map call.Copy (hand_of k)))
row_of Finish z (Number k ∷ []) = Some (call_on z (option_map call.Finish (hand_of k)))
row_of Shut z [] = Some (call_on z (Some call.Shut))
row_of Look z (Number s ∷ Number v ∷ []) = Some (call_on z (option_map call.Look (address_of s v)))
row_of Huge z [] = Some (call_on z (Some call.Huge))
row_of Give z (Number b ∷ []) = Some (call_on z (option_map call.Give (pageblock_of b)))
row_of Fill z (Number s ∷ Number v ∷ Number n ∷ []) =
    Some (series_on z (series_of repeated.Map (space_of s) v (page_count_of n) 1))
row_of Thin z (Number s ∷ Number v ∷ Number n ∷ Number step ∷ []) =
    Some (series_on z (series_of repeated.Unmap (space_of s) v (page_count_of n) step))
row_of Compact z [] = Some (compacting z)
row_of Pool z (Number n ∷ []) = Some (pooling z (blocks_of n) (Some Pageblocks))
row_of keyword z arguments = option_map (λ c. zone_call_on z c) (client_row keyword arguments)

-- the command that they make by the rows that only profile 2 has, if there is such a row
abbrev pub row_of_profile_2 : Token → Option ℕ → List Token → Option Command
row_of_profile_2 Info z [] = Some (call_on z (Some call.InfoWithHeld))
row_of_profile_2 Huge z (Number k ∷ []) = Some (zone_call_on z (option_map zone_call.TakeOrder (order_of k)))
row_of_profile_2 Give z (Number f ∷ Number k ∷ []) = Some (zone_call_on z (give_order_call (frame_of f) (order_of k)))
row_of_profile_2 Mark z (Number b ∷ []) = Some (zone_call_on z (option_map zone_call.Mark (pageblock_of b)))
row_of_profile_2 Unmark z (Number b ∷ []) = Some (zone_call_on z (option_map zone_call.Unmark (pageblock_of b)))
row_of_profile_2 Pool z (Number n ∷ Number k ∷ []) = Some (pooling z (blocks_of n) (option_map OfOrder (order_of k)))
row_of_profile_2 _ z _ = None

-- the command that they make by the rows that only this profile has, if there is such a row
abbrev pub own_row : Profile → Token → Option ℕ → List Token → Option Command
own_row Two keyword z arguments = row_of_profile_2 keyword z arguments
own_row _ keyword z arguments = None

-- the command that they make by the rows of a profile: its own come first, and then those that both have
abbrev pub row_in : Profile → Token → Option ℕ → List Token → Option Command
row_in profile keyword z arguments = option_or (own_row profile keyword z arguments) (row_of keyword z arguments)

-- a round during which a client makes calls: its zone may be any number
abbrev pub during_row : Token → ℕ → List Token → Option Command
during_row During z [] = Some (RoundBeside z)
during_row _ z _ = None

-- the command that tokens are, or begin, if they are one
abbrev pub command_of : Profile → List Token → Option Command
command_of profile (keyword ∷ Number z ∷ arguments) = option_or (row_in profile keyword (zone_of z) arguments) (during_row keyword z arguments)
command_of profile _ = None

-- what tokens say in a block for the zone with this number, if they say something there: its end, or a client's call on that zone
abbrev pub block_line_of : ℕ → List Token → Option BlockLine
block_line_of zone (End ∷ []) = Some block_line.End
block_line_of zone (keyword ∷ Number z ∷ arguments) =
    if nat_eq z zone then option_map block_line.Client (client_row keyword arguments) else None
block_line_of zone _ = None
