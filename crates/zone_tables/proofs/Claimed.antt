-- Frames are claimed, or their claims are dropped: the tables of the zone afterwards.
use Rattle.std.proofs.Common.{◌≡◌, ℕ, ◌+◌, ◌^◌, ◌<◌, ◌≤◌, Bool, true, false, not, List, inl, inr, refl, sym, ap, ◌∙◌, arith}
use Rattle.std.specs.Prelude.{Some, None, ◌&&◌, ◌||◌, slice_set}
use Rattle.std.specs.FinMap as map
use Rattle.std.specs.FinSet as set
use Rattle.std.specs.Cmp.{nat_cmp_total}
use Rattle.std.specs.Ordering.{nat_cmp}
use Rattle.std.proofs.Math.Bool.{and-true}
use Rattle.std.proofs.lemmas.Bool.{and_parts, and_right, leb-true, both_ways, cases_Bool, eq-eqb, or_from, or_parts, or_right}
use Rattle.std.proofs.lemmas.Bool.Decides.{eqb_tells}
use Rattle.std.proofs.lemmas.List.{length-set}
use Rattle.frame_core.proofs.Lists.{slice_get_set_same, slice_get_set_other}
use Rattle.frame_core.proofs.Searches.{count_from_all, count_from_full}
use Rattle.frame_core.specs.Order.{is_aligned}
use Rattle.frame_core.specs.declared.state.FrameState.{FrameState}
use Rattle.frame_core.specs.declared.state.FrameState.TheVariants.{Free, Huge}
use Rattle.number_set.specs.Numbers.{Numbers}
use Rattle.scan_core.specs.Frames.{Frames, huge_at, is_huge_state}
use Rattle.scan_core.specs.NumberSet.{all_from}
use Rattle.scan_core.specs.Runs.{with_run}
use Rattle.fewest_core.specs.Claims.{claimed_frames}
use Rattle.state_core.specs.Claiming.{claimed_at, dropped_at, is_claimed, run_dropped, with_apart, without_run}
use Rattle.state_core.specs.HandingOut.{has_block}
use Rattle.state_core.specs.ZoneState.{ZoneState, frame_count, is_free, is_held, is_handed_out, is_used}
use Rattle.state_core.proofs.Claiming.{valid_apart, valid_claimed_at, valid_dropped_at, valid_run_dropped, valid_forgotten, claimed_may, without_run_has}
use Rattle.state_core.proofs.Entries.{contains_insert_same, contains_insert_other, contains_remove_same, contains_remove_other}
use Rattle.state_core.proofs.Places.{unheld_frame, untaken}
use Rattle.zone_tables.specs.Fits.{FramesFit, state_by}
use Rattle.zone_tables.specs.History.{History}
use Rattle.zone_tables.specs.Sound.{state_of, IsSound}
use Rattle.zone_tables.specs.declared.zone.ZoneTables.TheInside.{Inside}
use Rattle.zone_tables.proofs.Facts.{Becomes, becomes}
use Rattle.state_core.specs.Valid.{IsValidZone}
use Rattle.state_core.proofs.HandingOut.{in_block, in_block_parts}
use Rattle.zone_tables.proofs.BlockFrames.{in_run, length_with_run, off_run}
use Rattle.zone_tables.proofs.HeldWords.{off_block}
use Rattle.zone_tables.proofs.Placement.{state_taken}

swapped : (a b : Bool) → (a && b) ≡ (b && a)
swapped true true = refl
swapped true false = refl
swapped false true = refl
swapped false false = refl

-- only which frames are claimed and the states of the frames change
module _ {W : ℕ} (z : Inside W) (v : ZoneState) (sound : IsSound z v) (view : state_of z ≡ v) where
  -- the fields with these states and claims, and no round
  abbrev with_claims : List (FrameState ℕ) → set.FinSet nat_cmp → Inside W
  with_claims states claims = record z { frames = record z.frames { states = states }; claimed = record z.claimed { members = claims }; history = record z.history { round = None } }

  -- the state with these claims, and no round
  abbrev state_with : set.FinSet nat_cmp → ZoneState
  state_with claims = record v { claimed = claims; round = None }

  claims_sound : (states : List (FrameState ℕ)) (claims : set.FinSet nat_cmp) → IsValidZone (state_with claims) → FramesFit states (state_with claims) → IsSound (with_claims states claims) (state_with claims)
  claims_sound states claims valid fit = record {
    valid = valid;
    orders = sound.orders;
    cleared = sound.cleared;
    lent = sound.lent;
    frames = fit;
    tables = sound.tables;
    size = sound.size;
    marks = sound.marks;
    claimed = sound.claimed;
    entries = record { each = sound.entries.each };
    words = record { count = sound.words.count; sized = sound.words.sized; each = sound.words.each };
    notes = record { count = sound.notes.count; each = λ page note e used. (let fit = sound.notes.each page note e used in record { dirty = fit.dirty; pins = fit.pins; maps = fit.maps }) };
    moves = record { isolated = sound.moves.isolated; moved = sound.moves.moved; back = sound.moves.back };
    movable = record { count = sound.movable.count; each = sound.movable.each };
    unmovable = record { count = sound.unmovable.count; each = sound.unmovable.each; rest = sound.unmovable.rest };
  }

  pub claims_hold : {frames : Frames} {claimed : Numbers} {history : History} (states : List (FrameState ℕ)) (claims : set.FinSet nat_cmp) → IsValidZone (state_with claims) → FramesFit states (state_with claims)
      → frames ≡ record z.frames { states = states } → claimed ≡ record z.claimed { members = claims } → history ≡ record z.history { round = None }
      → Becomes (record z { frames = frames; claimed = claimed; history = history }) (state_with claims)
  claims_hold states claims valid fit f c h =
      becomes {ideal = with_claims states claims} (λ i. record z { frames = f i; claimed = c i; history = h i }) (ap (λ (u : ZoneState). record u { claimed = claims; round = None }) view) (claims_sound states claims valid fit)

  -- a free frame is claimed
  module _ (frame : ℕ) (free : is_free v frame ≡ true) (within : frame < frame_count v) where
    claimed_fit : FramesFit (slice_set z.frames.states frame Huge) (claimed_at v frame)
    claimed_fit = record {
      count = length-set z.frames.states frame Huge ∙ sound.frames.count;
      of_page = λ page other state e. elim (eqb_tells other frame) [
        | inl same ↦ absurd (both_ways _ (untaken v sound.valid other (ap (is_free v) same.1 ∙ free) page) (state_taken page (map.get v.placement page) other state e))
        | inr ne ↦ slice_get_set_other z.frames.states frame other Huge ne.1 ∙ sound.frames.of_page page other state e
      ];
      of_block = λ other h held. elim (eqb_tells other frame) [
        | inl same ↦ slice_get_set_same z.frames.states frame other Huge same.1 (omega (arith, within, sound.frames.count))
        | inr ne ↦ slice_get_set_other z.frames.states frame other Huge ne.1 ∙ sound.frames.of_block other h (sym (ap (λ b. is_handed_out v other || b) (contains_insert_other v.claimed frame other ne.1)) ∙ held)
      ];
      of_none = λ other h still. elim (eqb_tells other frame) [
        | inl same ↦ absurd (both_ways _ (or_parts (is_handed_out v other) _ (unheld_frame (claimed_at v frame) other still)).1 (contains_insert_same v.claimed frame other same.1))
        | inr ne ↦ slice_get_set_other z.frames.states frame other Huge ne.1 ∙ sound.frames.of_none other h (sym (ap (λ b. not (is_used v other) && not (is_handed_out v other || b)) (contains_insert_other v.claimed frame other ne.1)) ∙ still)
      ];
    }

    pub claimed_holds : {frames : Frames} {claimed : Numbers} {history : History} → frames ≡ record z.frames { states = slice_set z.frames.states frame Huge } → claimed ≡ record z.claimed { members = set.insert z.claimed.members frame } → history ≡ record z.history { round = None }
        → Becomes (record z { frames = frames; claimed = claimed; history = history }) (claimed_at v frame)
    claimed_holds f c h = claims_hold (slice_set z.frames.states frame Huge) (set.insert v.claimed frame) (valid_claimed_at v sound.valid frame free within) claimed_fit f (c ∙ ap (λ (u : ZoneState). record z.claimed { members = set.insert u.claimed frame }) view) h

  -- a claimed frame is held, and no page takes it up
  pub claim_held : (frame : ℕ) → is_claimed v frame ≡ true → is_held v frame ≡ true
  claim_held frame claim = or_right (is_handed_out v frame) _ claim

  claim_untaken : (page frame : ℕ) (state : FrameState ℕ) → is_claimed v frame ≡ true → state_by page (map.get v.placement page) frame ≡ Some state → ⊥
  claim_untaken page frame state claim e = both_ways _ (sound.valid.pages.clear page frame (state_taken page (map.get v.placement page) frame state e)) (claim_held frame claim)

  pub claim_huge : (frame : ℕ) → is_claimed v frame ≡ true → huge_at z.frames.states frame ≡ true
  claim_huge frame claim = ap is_huge_state (sound.frames.of_block frame (sound.valid.blocks.claims frame claim) (claim_held frame claim))

  -- the claim of a frame is dropped
  module _ (frame : ℕ) (claim : is_claimed v frame ≡ true) where
    dropped_fit : FramesFit (slice_set z.frames.states frame Free) (dropped_at v frame)
    dropped_fit = record {
      count = length-set z.frames.states frame Free ∙ sound.frames.count;
      of_page = λ page other state e. elim (eqb_tells other frame) [
        | inl same ↦ absurd (claim_untaken page other state (ap (is_claimed v) same.1 ∙ claim) e)
        | inr ne ↦ slice_get_set_other z.frames.states frame other Free ne.1 ∙ sound.frames.of_page page other state e
      ];
      of_block = λ other h held. elim (eqb_tells other frame) [
        | inl same ↦ absurd (both_ways _ (or_from _ _ (claimed_may v sound.valid other (ap (is_claimed v) same.1 ∙ claim)).kept (contains_remove_same v.claimed frame other same.1)) held)
        | inr ne ↦ slice_get_set_other z.frames.states frame other Free ne.1 ∙ sound.frames.of_block other h (sym (ap (λ b. is_handed_out v other || b) (contains_remove_other v.claimed frame other ne.1)) ∙ held)
      ];
      of_none = λ other h still. elim (eqb_tells other frame) [
        | inl same ↦ slice_get_set_same z.frames.states frame other Free same.1 (let within = sound.valid.blocks.claims frame claim in omega (arith, within, sound.frames.count))
        | inr ne ↦ slice_get_set_other z.frames.states frame other Free ne.1 ∙ sound.frames.of_none other h (sym (ap (λ b. not (is_used v other) && not (is_handed_out v other || b)) (contains_remove_other v.claimed frame other ne.1)) ∙ still)
      ];
    }

    pub dropped_holds : {frames : Frames} {claimed : Numbers} {history : History} → frames ≡ record z.frames { states = slice_set z.frames.states frame Free } → claimed ≡ record z.claimed { members = set.remove z.claimed.members frame } → history ≡ record z.history { round = None }
        → Becomes (record z { frames = frames; claimed = claimed; history = history }) (dropped_at v frame)
    dropped_holds f c h = claims_hold (slice_set z.frames.states frame Free) (set.remove v.claimed frame) (valid_dropped_at v sound.valid frame) dropped_fit f (c ∙ ap (λ (u : ZoneState). record z.claimed { members = set.remove u.claimed frame }) view) h

  -- the claims of a run are dropped, all of whose frames were claimed
  module _ (first order : ℕ) (block : has_block v order first ≡ true) (all : claimed_frames first (2 ^ order) v ≡ 2 ^ order) where
    run_within : first + 2 ^ order ≤ frame_count v
    run_within = leb-true _ _ (and_parts (is_aligned order first) _ block).1

    run_claim : (frame : ℕ) → first ≤ frame → frame < first + 2 ^ order → is_claimed v frame ≡ true
    run_claim frame = count_from_full (is_claimed v) first (2 ^ order) frame all

    -- a frame outside of the run is claimed afterwards where it was, and one of the run isn't
    claim_outside : (frame : ℕ) → in_block first order frame ≡ false → set.contains (without_run v.claimed first (2 ^ order)) frame ≡ is_claimed v frame
    claim_outside frame there = without_run_has v.claimed first (2 ^ order) frame ∙ ap (λ b. is_claimed v frame && not b) there ∙ and-true (is_claimed v frame)

    claim_inside : (frame : ℕ) → in_block first order frame ≡ true → set.contains (without_run v.claimed first (2 ^ order)) frame ≡ false
    claim_inside frame here = without_run_has v.claimed first (2 ^ order) frame ∙ and_right (is_claimed v frame) _ (ap not here)

    pub run_huge : all_from (huge_at z.frames.states) first (2 ^ order) ≡ true
    run_huge = eq-eqb _ _ (count_from_all (huge_at z.frames.states) first (2 ^ order) (λ frame low high. claim_huge frame (run_claim frame low high)))

    run_fit : FramesFit (with_run z.frames.states first (2 ^ order) Free) (run_dropped first (2 ^ order) v)
    run_fit = record {
      count = length_with_run z.frames.states first (2 ^ order) Free ∙ sound.frames.count;
      of_page = λ page frame state e. elim (cases_Bool (in_block first order frame)) [
        | inl here ↦ (let parts = in_block_parts first order frame here in absurd (claim_untaken page frame state (run_claim frame parts.0 parts.1) e))
        | inr there ↦ off_run z.frames.states first (2 ^ order) Free frame (off_block first order frame there) ∙ sound.frames.of_page page frame state e
      ];
      of_block = λ frame h held. elim (cases_Bool (in_block first order frame)) [
        | inl here ↦ (let parts = in_block_parts first order frame here in
            absurd (both_ways _ (or_from _ _ (claimed_may v sound.valid frame (run_claim frame parts.0 parts.1)).kept (claim_inside frame here)) held))
        | inr there ↦ off_run z.frames.states first (2 ^ order) Free frame (off_block first order frame there)
            ∙ sound.frames.of_block frame h (sym (ap (λ b. is_handed_out v frame || b) (claim_outside frame there)) ∙ held)
      ];
      of_none = λ frame h still. elim (cases_Bool (in_block first order frame)) [
        | inl here ↦ (let parts = in_block_parts first order frame here in in_run z.frames.states first (2 ^ order) Free frame (omega (arith, run_within, sound.frames.count)) parts.0 parts.1)
        | inr there ↦ off_run z.frames.states first (2 ^ order) Free frame (off_block first order frame there)
            ∙ sound.frames.of_none frame h (sym (ap (λ b. not (is_used v frame) && not (is_handed_out v frame || b)) (claim_outside frame there)) ∙ still)
      ];
    }

    -- the set that is without the run is the one that the state has
    claims_without : (claims : set.FinSet nat_cmp) → ((frame : ℕ) → set.contains claims frame ≡ (not (in_block first order frame) && set.contains z.claimed.members frame)) → claims ≡ without_run v.claimed first (2 ^ order)
    claims_without claims has = set.same_set nat_cmp_total set.nat_cmp-IsAntisymmetric _ _ (λ frame.
        (has frame ∙ ap (λ (u : ZoneState). not (in_block first order frame) && is_claimed u frame) view
        ∙ swapped (not (in_block first order frame)) (is_claimed v frame) ∙ sym (without_run_has v.claimed first (2 ^ order) frame)))

    pub run_holds : {frames : Frames} {claimed : Numbers} {history : History} → frames ≡ record z.frames { states = with_run z.frames.states first (2 ^ order) Free }
        → ((frame : ℕ) → set.contains claimed.members frame ≡ (not (in_block first order frame) && set.contains z.claimed.members frame)) → claimed.bound ≡ z.claimed.bound → history ≡ record z.history { round = None }
        → Becomes (record z { frames = frames; claimed = claimed; history = history }) (run_dropped first (2 ^ order) v)
    run_holds {claimed = claimed} f has bound h =
        claims_hold (with_run z.frames.states first (2 ^ order) Free) (without_run v.claimed first (2 ^ order)) (valid_run_dropped v sound.valid first (2 ^ order)) run_fit f (λ i. record { members = claims_without claimed.members has i; bound = bound i }) h

  -- the latest round is forgotten
  pub forgotten_holds : {history : History} → history ≡ record z.history { round = None } → Becomes (record z { history = history }) (record v { round = None })
  forgotten_holds h = becomes {ideal = record z { history = record z.history { round = None } }} (λ i. record z { history = h i }) (ap (λ (u : ZoneState). record u { round = None }) view) (record {
    valid = valid_forgotten v sound.valid;
    orders = sound.orders;
    cleared = sound.cleared;
    lent = sound.lent;
    frames = record { count = sound.frames.count; of_page = sound.frames.of_page; of_block = sound.frames.of_block; of_none = sound.frames.of_none };
    tables = sound.tables;
    size = sound.size;
    marks = sound.marks;
    claimed = sound.claimed;
    entries = record { each = sound.entries.each };
    words = record { count = sound.words.count; sized = sound.words.sized; each = sound.words.each };
    notes = record { count = sound.notes.count; each = λ page note e used. (let fit = sound.notes.each page note e used in record { dirty = fit.dirty; pins = fit.pins; maps = fit.maps }) };
    moves = record { isolated = sound.moves.isolated; moved = sound.moves.moved; back = sound.moves.back };
    movable = record { count = sound.movable.count; each = sound.movable.each };
    unmovable = record { count = sound.unmovable.count; each = sound.unmovable.each; rest = sound.unmovable.rest };
  })

  -- unmovable pages are mapped apart from now on, or not
  pub apart_holds : (apart : Bool) → Becomes (record z { apart = apart }) (with_apart v apart)
  apart_holds apart = becomes {ideal = record z { apart = apart }} refl (ap (λ (u : ZoneState). record u { apart = apart }) view) (record {
    valid = valid_apart v sound.valid apart;
    orders = sound.orders;
    cleared = sound.cleared;
    lent = sound.lent;
    frames = record { count = sound.frames.count; of_page = sound.frames.of_page; of_block = sound.frames.of_block; of_none = sound.frames.of_none };
    tables = sound.tables;
    size = sound.size;
    marks = sound.marks;
    claimed = sound.claimed;
    entries = record { each = sound.entries.each };
    words = record { count = sound.words.count; sized = sound.words.sized; each = sound.words.each };
    notes = record { count = sound.notes.count; each = λ page note e used. (let fit = sound.notes.each page note e used in record { dirty = fit.dirty; pins = fit.pins; maps = fit.maps }) };
    moves = record { isolated = sound.moves.isolated; moved = sound.moves.moved; back = sound.moves.back };
    movable = record { count = sound.movable.count; each = sound.movable.each };
    unmovable = record { count = sound.unmovable.count; each = sound.unmovable.each; rest = sound.unmovable.rest };
  })
