-- Where no address is listed under a frame, no address names anything.
use Rattle.std.proofs.Common.{◌≡◌, ℕ, ◌*◌, Bool, true, false, List, length, replicate, refl, ap, sym, ◌∙◌}
use Rattle.std.specs.Prelude.{if◌then◌else◌, Option, Some, None, slice_get, unwrap_or}
use Rattle.std.proofs.lemmas.List.{length-replicate}
use Rattle.frame_core.specs.Address.{is_in_table}
use Rattle.table_core.specs.declared.size.Size.{Size}
use Rattle.table_core.specs.EntriesInside.{entry_by, entries_of, AreKept}
use Rattle.table_core.specs.Tables.{place_of, IsBlank}
use Rattle.table_core.proofs.Listing.{all_same}
use Rattle.table_core.proofs.Writing.{seen}

pub blank : (size : Size) (n : ℕ) (left : List Bool) (frames : List (Option ℕ)) → frames ≡ replicate n None → IsBlank (record { list = entries_of left frames; size = size })
blank size n left frames e a = seen size left frames a ∙ ap (entry_by left) (under (is_in_table size.spaces size.pages a)) where
  under : (t : Bool) → (if t then unwrap_or (slice_get frames (place_of size.pages a)) None else None) ≡ None
  under false = refl
  under true = ap (λ (fs : List (Option ℕ)). unwrap_or (slice_get fs (place_of size.pages a)) None) e ∙ all_same n (place_of size.pages a) None

pub kept_blank : (size : Size) (n : ℕ) (left : List Bool) (frames : List (Option ℕ)) → n ≡ size.spaces * size.pages → frames ≡ replicate n None → AreKept size left frames
kept_blank size n left frames count e = record {
  count = ap length e ∙ length-replicate n None ∙ count;
  within = λ place frame at.
      let none : None ≡ Some frame =
      sym (all_same n place None)
      ∙ sym (ap (λ (under : List (Option ℕ)). unwrap_or (slice_get under place) None) e)
      ∙ ap (λ (o : Option (Option ℕ)). unwrap_or o None) at in
      cc;
}
