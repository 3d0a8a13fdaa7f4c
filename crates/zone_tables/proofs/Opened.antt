-- A zone that was just opened.
use Rattle.std.proofs.Common.{◌≡◌, ℕ, ◌*◌, ◌<◌, ◌≤◌, Bool, true, false, List, [], length, replicate, sym, ap, ◌∙◌, arith}
use Rattle.std.specs.Prelude.{Option, Some, None, is_some, slice_get, unwrap_or, IfSome, ◌&&◌, if◌then◌else◌}
use Rattle.std.specs.FinSet as set
use Rattle.std.specs.FinMap as map
use Rattle.std.specs.List.{All}
use Rattle.std.specs.Option.{option_map, option_and_then}
use Rattle.std.specs.Ordering.{nat_cmp}
use Rattle.std.proofs.lemmas.Bool.{both_ways}
use Rattle.std.proofs.lemmas.List.{get_or_default, length-replicate}
use Rattle.std.proofs.lemmas.Option.{unwrap_or-slice_get}
use Rattle.frame_core.proofs.Searches.{count_none}
use Rattle.state_core.specs.ZoneState.{ZoneState, is_in_block, takes_up, words_frame}
use Rattle.frame_core.proofs.Lists.{slice_get_replicate}
use Rattle.frame_core.specs.declared.state.FrameState.TheVariants.{Free}
use Rattle.table_core.specs.Tables.{IsBlank}
use Rattle.frame_core.specs.Page.{blank_words}
use Rattle.frame_core.specs.FrameSet.{has_frame}
use Rattle.frame_core.specs.LentWords.{NoneLent}
use Rattle.zone_tables.specs.declared.note.PageNote.{PageNote}
use Rattle.zone_tables.specs.Moves.{Moves}
use Rattle.zone_tables.proofs.Copies.{no_placement, all_false, all_movable, no_order}
use Rattle.zone_tables.specs.declared.zone.ZoneTables.TheInside.{Inside}
use Rattle.state_core.specs.declared.placement.Placement.{Placement}
use Rattle.state_core.specs.declared.placement.Placement.TheVariants.{At}
use Rattle.state_core.specs.declared.size.ZoneSize.{ZoneSize}
use Rattle.state_core.specs.Opening.{opened_sized, places_of, HasPlaces, IsZoneSize}
use Rattle.frame_core.specs.Journal.{unrecorded_places}
use Rattle.state_core.specs.Valid.{IsValidZone}
use denote.RawPtr.{Ptr}
use Rattle.zone_tables.specs.Fits.{state_by}
use Rattle.zone_tables.specs.Sound.{state_of, IsSound}
use Rattle.scan_core.specs.Frames.{Frames, all_free, true_at}
use Rattle.zone_tables.specs.Contents.{words_held, contents_at, memory_of}
use Rattle.zone_tables.specs.HandedOut.{order_of, is_lent_at}
use Rattle.zone_tables.specs.Notes.{unused_note, placement_of, is_unmovable_of}
use Rattle.scan_core.specs.NumberSet.{gathered}
use Rattle.zone_tables.specs.Tabulated.{tabulated}
use Rattle.zone_tables.proofs.Tabulating.{tabulated_none, gathered_none}
use Rattle.state_core.proofs.Opened.{unheld, opened_valid, opened_in_valid}
use Rattle.zone_tables.specs.LentPages.{pages_lent}
use Rattle.zone_tables.proofs.LentPages.{lent_none}
use Rattle.state_core.proofs.Placed.{clash}

-- the fields of a zone that was just opened
pub record IsFresh {W : ℕ} (z : Inside W) (number : ℕ) (size : ZoneSize) (places : ℕ) : Type 0 where
  pub allowed : IsZoneSize size
  pub few : places ≤ unrecorded_places
  pub number_is : z.number ≡ number
  pub size_is : z.size ≡ size
  pub frames : z.frames ≡ all_free size.blocks
  pub tables : IsBlank z.tables.entries
  pub tables_frames : z.tables.frames ≡ 512 * size.blocks
  pub tables_size : z.tables.entries.size ≡ record { spaces = size.spaces; pages = size.vpages }
  pub here : NoneLent z.words
  pub count : length z.words.rows ≡ 512 * size.blocks
  pub sized : All (λ row. length row ≡ W) z.words.rows
  pub notes : z.notes ≡ replicate (512 * size.blocks) unused_note
  pub handed_out : z.handed_out ≡ replicate (512 * size.blocks) None
  pub cleared : z.cleared ≡ replicate (512 * size.blocks) false
  pub marked : z.marks ≡ replicate size.blocks false
  pub apart : z.apart ≡ false
  pub claimed : z.claimed.members ≡ set.empty
  pub claimed_room : 512 * size.blocks ≤ z.claimed.bound
  pub fingers : z.fingers ≡ record { migrate = 0; free = 0 }
  pub moves : z.moves ≡ record { isolated = 0; moved = 0; back = 0 }
  pub history : z.history ≡ record { records = []; room = places; round = None }

-- the state of such a zone
abbrev pub opened : {W : ℕ} → Inside W → ℕ → ZoneSize → ℕ → ZoneState
opened {W} z number size places = record (opened_sized W number size places) { memory = memory_of z.words }

pub opened_view : {W : ℕ} (z : Inside W) (number : ℕ) (size : ZoneSize) (places : ℕ) → IsFresh z number size places → state_of z ≡ opened z number size places
opened_view {W} z number size places fresh =
    let u : gathered (is_unmovable_of z.notes) (length z.notes) ≡ set.empty =
    gathered_none (is_unmovable_of z.notes) (length z.notes) (λ page. ap (λ (ns : List PageNote). is_unmovable_of ns page) fresh.notes ∙ all_movable (512 * size.blocks) page) in
    let m : gathered (true_at z.marks) (length z.marks) ≡ set.empty =
    gathered_none (true_at z.marks) (length z.marks) (λ block. ap (λ (bs : List Bool). true_at bs block) fresh.marked ∙ all_false size.blocks block) in
    let h : tabulated (order_of z.handed_out) (length z.handed_out) ≡ map.empty =
    tabulated_none (order_of z.handed_out) (length z.handed_out) (λ first. ap (λ (os : List (Option ℕ)). order_of os first) fresh.handed_out ∙ no_order (512 * size.blocks) first) in
    let c : tabulated (contents_at W z.words.rows z.cleared z.handed_out) (length z.handed_out) ≡ map.empty =
    tabulated_none (contents_at W z.words.rows z.cleared z.handed_out) (length z.handed_out)
    (λ first. ap (option_map (words_held W z.words.rows (true_at z.cleared first) first)) (ap (λ (os : List (Option ℕ)). order_of os first) fresh.handed_out ∙ no_order (512 * size.blocks) first)) in
    let l : gathered (is_lent_at z.words.lent z.handed_out) (length z.handed_out) ≡ set.empty =
    gathered_none (is_lent_at z.words.lent z.handed_out) (length z.handed_out) (λ first. ap (λ (os : List (Option ℕ)). is_some (order_of os first) && has_frame z.words.lent first) fresh.handed_out ∙ ap (λ (o : Option ℕ). is_some o && has_frame z.words.lent first) (no_order (512 * size.blocks) first)) in
    let p : tabulated (placement_of z.notes) (length z.notes) ≡ map.empty =
    tabulated_none (placement_of z.notes) (length z.notes) (λ page. ap (λ (ns : List PageNote). placement_of ns page) fresh.notes ∙ no_placement (512 * size.blocks) page) in
    let l_pages : pages_lent z.words.lent (tabulated (placement_of z.notes) (length z.notes)) (512 * z.size.blocks) ≡ set.empty =
    gathered_none _ (512 * z.size.blocks) (λ page. lent_none z.words.lent _ (λ place is. fresh.here (words_frame place))) in
    λ i. record {
      number = fresh.number_is i;
      blocks = (fresh.size_is i).blocks;
      spaces = (fresh.size_is i).spaces;
      vpages = (fresh.size_is i).vpages;
      page_size = W;
      records = (fresh.history i).records;
      room = (fresh.history i).room;
      unmovable = u i;
      marked = m i;
      apart = fresh.apart i;
      claimed = fresh.claimed i;
      handed_out = h i;
      contents = c i;
      lent = l i;
      lent_pages = l_pages i;
      memory = memory_of z.words;
      placement = p i;
      migrate = (fresh.fingers i).migrate;
      free = (fresh.fingers i).free;
      round = (fresh.history i).round;
    }

-- a journal that is kept has no more places than one that is unrecorded
pub few_places : (places : Option ℕ) → IfSome places HasPlaces → places_of places ≤ unrecorded_places
few_places None has = omega arith
few_places (Some places) has = omega (arith, has.1)

-- each row of blank words has those of a page
pub blank_sized : (size n : ℕ) (rows : List (List ℕ)) → rows ≡ replicate n (blank_words size) → All (λ row. length row ≡ size) rows
blank_sized size n rows blank k d h =
    let within : k < n = omega (arith, h, ap length blank ∙ length-replicate n (blank_words size)) in
    let row = ap (λ (rs : List (List ℕ)). slice_get rs k) blank ∙ slice_get_replicate n k (blank_words size) within in
    ap length (get_or_default rows k d [] h ∙ sym (unwrap_or-slice_get rows k [])) ∙ ap (λ (o : Option (List ℕ)). length (unwrap_or o [])) row ∙ length-replicate size 0

-- it is valid, whether its words lie in memory of its own or of its caller
opened_holds : (size_of number : ℕ) (size : ZoneSize) (places : ℕ) → IsZoneSize size → places ≤ unrecorded_places → (given : Bool) (at : Ptr) → IsValidZone (record (opened_sized size_of number size places) { memory = if given then Some at else None })
opened_holds size_of number size places allowed few true at = opened_in_valid size_of number size places at allowed few
opened_holds size_of number size places allowed few false at = opened_valid size_of number size places allowed few

pub opened_sound : {W : ℕ} (z : Inside W) (number : ℕ) (size : ZoneSize) (places : ℕ) → IsFresh z number size places → IsSound z (opened z number size places)
opened_sound {W} z number size places fresh = record {
  valid = opened_holds W number size places fresh.allowed fresh.few z.words.given z.words.at;
  orders = ap length fresh.handed_out ∙ length-replicate (512 * size.blocks) None;
  cleared = record {
    count = ap length fresh.cleared ∙ length-replicate (512 * size.blocks) false;
    lent = λ first gone. absurd (both_ways _ (set.contains-empty nat_cmp first) gone);
  };
  marks = ap length fresh.marked ∙ length-replicate size.blocks false;
  claimed = fresh.claimed_room;
  tables = fresh.tables_frames;
  size = fresh.tables_size;
  frames = record {
    count = ap (λ (fs : Frames). length fs.states) fresh.frames ∙ length-replicate (512 * size.blocks) Free;
    of_page = λ page frame state e. (let bad : None ≡ Some state = sym (ap (λ (o : Option Placement). state_by page o frame) (map.get-empty nat_cmp page)) ∙ e in cc);
    of_block = λ frame h held. (let bad : false ≡ true = sym (unheld W number size places frame) ∙ held in cc);
    of_none = λ frame h free. ap (λ (fs : Frames). slice_get fs.states frame) fresh.frames ∙ slice_get_replicate (512 * size.blocks) frame Free h;
  };
  entries = record { each = λ address range. fresh.tables address };
  words = record {
    count = fresh.count;
    sized = λ frame h. ap length (unwrap_or-slice_get z.words.rows frame []) ∙ fresh.sized frame [] (omega (arith, h, fresh.count));
    each = λ page placement word e h. (let bad : None ≡ Some placement = sym (map.get-empty nat_cmp page) ∙ e in cc);
  };
  lent = record { of_block = λ first order e. (let bad : None ≡ Some order = sym (map.get-empty nat_cmp first) ∙ e in cc); of_page = λ page frame has. (let bad : false ≡ true = sym (ap (λ (o : Option Placement). takes_up o frame) (map.get-empty nat_cmp page)) ∙ has in cc); others = λ frame off none. fresh.here frame };
  notes = record {
    count = ap length fresh.notes ∙ length-replicate (512 * size.blocks) unused_note;
    each = λ page note e used. absurd (clash note.placement (sym (ap (option_and_then (λ (n : PageNote). n.placement)) e) ∙ ap (λ (ns : List PageNote). placement_of ns page) fresh.notes ∙ no_placement (512 * size.blocks) page) used);
  };
  moves = record { isolated = ap (λ (m : Moves). m.isolated) fresh.moves; moved = ap (λ (m : Moves). m.moved) fresh.moves; back = ap (λ (m : Moves). m.back) fresh.moves };
  unmovable = record {
    count = ap (λ (fs : Frames). length fs.unmovable) fresh.frames ∙ length-replicate size.blocks 0;
    each = λ block h. ap (λ (fs : Frames). slice_get fs.unmovable block) fresh.frames ∙ slice_get_replicate size.blocks block 0 h
        ∙ ap Some (sym (count_none _ (512 * size.blocks) (λ page low. ap (λ b. b && is_in_block (map.get (map.empty {R = nat_cmp}) page) block) (set.contains-empty nat_cmp page))));
    rest = λ page e. (let bad : false ≡ true = sym (set.contains-empty nat_cmp page) ∙ e in cc);
  };
  movable = record {
    count = ap (λ (fs : Frames). length fs.movable) fresh.frames ∙ length-replicate (512 * size.blocks) false;
    each = λ page frame e. (let bad : None ≡ Some (At frame) = sym (map.get-empty nat_cmp page) ∙ e in cc);
  };
}
