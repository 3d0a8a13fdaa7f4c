-- Numbers with a comma before each.
use Rattle.std.proofs.Common.{◌≡◌, ◌∙◌, ℕ, suc, ◌+◌, ◌-◌, ◌<◌, ◌≤◌, List, [], ◌∷◌, ◌++◌, length, take, drop, get_or, ap, append-nil, arith}
use Rattle.std.specs.Prelude.{codes, decimal}
use Rattle.std.proofs.lemmas.List.{take_all, take_more}
use Rattle.std.proofs.lemmas.Grind.{flat_map-append}
use Rattle.text_core.specs.Reply.{after_commas, numbers_text}

abbrev after_comma : ℕ → List ℕ
after_comma n = codes "," ++ decimal n

-- the text of the first numbers, and of one more
pub after_commas-next : (numbers : List ℕ) (i : ℕ) → i < length numbers
    → after_commas (take (i + 1) numbers) ≡ after_commas (take i numbers) ++ (codes "," ++ decimal (get_or numbers i 0))
after_commas-next numbers i within =
    ap after_commas (take_more numbers i 0 within)
    ∙ flat_map-append after_comma (take i numbers) (get_or numbers i 0 ∷ [])
    ∙ ap (λ (r : List ℕ). after_commas (take i numbers) ++ r) (append-nil (after_comma (get_or numbers i 0)))

-- the text of numbers where there is a first one
pub numbers_text-front : (numbers : List ℕ) → 1 ≤ length numbers
    → decimal (get_or numbers 0 0) ++ after_commas (take (length numbers - 1) (drop 1 numbers)) ≡ numbers_text numbers
numbers_text-front [] some = absurd (omega (arith, some))
numbers_text-front (first ∷ more) some =
    let all : take (suc (length more) - 1) more ≡ more = take_all _ more (omega arith) in
    ap (λ (r : List ℕ). decimal first ++ after_commas r) all
