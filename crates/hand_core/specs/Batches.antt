-- Pages or copies that are handed over together.
use Rattle.std.specs.Prelude.{List, length, ◌-◌, take}
use Rattle.std.specs.List.{flat_map}
use Rattle.arrayvec.specs.ArrayVec.{ArrayVec}
use Rattle.frame_core.specs.Page.{IsolatedPage}

-- a batch: pages or copies that are in a queue together, in their order
abbrev pub Batch : Type 0
Batch = ArrayVec IsolatedPage

-- the pages of all batches, in their order
abbrev pub pages_of : List Batch → List IsolatedPage
pages_of batches = flat_map (λ (h : Batch). h.items) batches

-- the pages that calls have answered, where all of these were received and those in hand are the last of them
abbrev pub before_hand : List IsolatedPage → List IsolatedPage → List IsolatedPage
before_hand came in_hand = take (length came - length in_hand) came
