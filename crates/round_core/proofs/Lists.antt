-- Lists of serials, and the takers whose pages they tell.
use Rattle.std.proofs.Common.{◌≡◌, ℕ, List, [], ◌∷◌, ◌++◌, map, Bool, true, false, ◌&&◌, refl, ap, sym, ◌∙◌}
use Rattle.std.proofs.lemmas.List.{map-append}
use Rattle.frame_core.specs.Serials.{serials_of}
use Rattle.hand_core.specs.PageEnds.{Taker}
use Rattle.round_core.specs.Crews.{AreListed}

-- one more copier has its list
pub listed_more : {V : Type 0} (items : V → List ℕ) (lists lists_new : List V) (takers takers_new : List Taker) (list : V) (taker : Taker)
    → lists_new ≡ lists ++ list ∷ [] → takers_new ≡ takers ++ taker ∷ [] → items list ≡ serials_of taker.taken
    → AreListed (map items lists) takers → AreListed (map items lists_new) takers_new
listed_more items lists lists_new takers takers_new list taker pushed joined his all =
    ap (map items) pushed
    ∙ map-append items lists (list ∷ [])
    ∙ ap (λ xs. xs ++ items list ∷ []) all
    ∙ ap (λ xs. map (λ (t : Taker). serials_of t.taken) takers ++ xs ∷ []) his
    ∙ sym (map-append (λ (t : Taker). serials_of t.taken) takers (taker ∷ []))
    ∙ ap (map (λ (t : Taker). serials_of t.taken)) (sym joined)

pub both : (a b : Bool) → (a && b) ≡ true → (a ≡ true) × (b ≡ true)
both true b h = (refl, h)
both false b h = (h, absurd (cc))
