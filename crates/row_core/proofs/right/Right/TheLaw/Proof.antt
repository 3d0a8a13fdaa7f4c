-- A `&` to the right lends the words that are here. Assumes `Logic`.
use denote.RawPtr.{block_of, count_of}
use denote.Struct.Lending.{of_Lends}
use Rattle.row_core.specs.Owned.{share_of}
use Rattle.row_core.specs.contracts.right.Right as C
use Rattle.row_core.proofs.Sharing.{words_lent-laws, Lends-words}
use Rattle.row_core.proofs.right.Right.TheLaw.Statement.{statement}

pub shares : statement
shares = of_Lends C.struct C.the_codes C.the_heap C.the_lent (λ d p. words_lent-laws d.items d.here (block_of d.ptr) (count_of d.ptr)) tt
    (λ M 𝓤 𝓛 d p. Lends-words 𝓛 C.the_row.lives (share_of d.halves) d.items d.here (block_of d.ptr) (count_of d.ptr))
