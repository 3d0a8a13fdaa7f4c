use Rattle.std.proofs.Common.{◌∙◌, refl, sym, arith}
use Rattle.std.specs.Prelude.{None}
use Rattle.state_core.proofs.Pairing.{pair_found, pair_of, source_within, none_found, no_page_pair}
use Rattle.zone_tables.proofs.Facts.{is_sound}
use Rattle.zone_tables.proofs.Scanning.{pair_seen, met_seen}
use Rattle.zone_tables.proofs.zone.ZoneTables.next_pair.Goals as goal

pub returns-in_default-clause-pair : goal.returns-in_default-clause-pair
returns-in_default-clause-pair g c = sym (met_seen c.self.view_is c.self.invariant (sym c.in_default.is ∙ c.next_pair.ensures.step))

pub returns-in_default-clause-none : goal.returns-in_default-clause-none
returns-in_default-clause-none g c =
    none_found c.args.self.now (is_sound c.self.view_is c.self.invariant).valid None refl (met_seen c.self.view_is c.self.invariant (sym c.in_default.is ∙ c.next_pair.ensures.step))

pub holder-requires : goal.holder-requires
holder-requires g c =
    let found = pair_seen c.self.view_is c.self.invariant (sym c.in-Pair.is ∙ c.next_pair.ensures.step) in
    (omega arith, source_within c.args.self.now (is_sound c.self.view_is c.self.invariant).valid c.in-Pair.source found.0)

pub returns-in_err-page-clause-pair : goal.returns-in_err-page-clause-pair
returns-in_err-page-clause-pair g c =
    let found = pair_seen c.self.view_is c.self.invariant (sym c.in-Pair.is ∙ c.next_pair.ensures.step) in
    c.from_residual.ensures ∙ sym (no_page_pair c.args.self.now c.in-Pair.source found.0 (sym c.holder.ensures.holder ∙ c.in_err-page.was))

pub returns-in_err-page-clause-none : goal.returns-in_err-page-clause-none
returns-in_err-page-clause-none g c =
    let found = pair_seen c.self.view_is c.self.invariant (sym c.in-Pair.is ∙ c.next_pair.ensures.step) in
    none_found c.args.self.now (is_sound c.self.view_is c.self.invariant).valid c.from_residual.result c.from_residual.ensures
    (no_page_pair c.args.self.now c.in-Pair.source found.0 (sym c.holder.ensures.holder ∙ c.in_err-page.was))

pub returns-clause-pair : goal.returns-clause-pair
returns-clause-pair g c =
    let found = pair_seen c.self.view_is c.self.invariant (sym c.in-Pair.is ∙ c.next_pair.ensures.step) in
    sym (pair_of c.args.self.now c.in-Pair.source c.in_ok-page.page c.in-Pair.target found.0 found.1 (sym c.holder.ensures.holder ∙ c.in_ok-page.was))

pub returns-clause-is_pair : goal.returns-clause-is_pair
returns-clause-is_pair g c =
    let found = pair_seen c.self.view_is c.self.invariant (sym c.in-Pair.is ∙ c.next_pair.ensures.step) in
    pair_found c.args.self.now (is_sound c.self.view_is c.self.invariant).valid (record { page = c.in_ok-page.page; source = c.in-Pair.source; target = c.in-Pair.target })
    (pair_of c.args.self.now c.in-Pair.source c.in_ok-page.page c.in-Pair.target found.0 found.1 (sym c.holder.ensures.holder ∙ c.in_ok-page.was))
