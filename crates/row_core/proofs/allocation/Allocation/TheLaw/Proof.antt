-- A `&` to an allocation shows nothing. Assumes `Logic`.
use base.Fraction.{full_share}
use denote.Memory.{part_at}
use denote.SharingLaws.{nothing_shr_laws}
use denote.Struct.Lending.{Lends-nothing}
use Rattle.row_core.specs.contracts.allocation.Allocation as C
use Rattle.row_core.proofs.allocation.Allocation.TheLaw.Statement.{statement}

pub shares : statement
shares = record {
  shr_laws = λ d b o. nothing_shr_laws;
  shares = λ M 𝓤 𝓛 d κ ts b o. Lends-nothing 𝓛 (part_at C.the_written full_share d b o) C.the_written.lives κ ts;
}
