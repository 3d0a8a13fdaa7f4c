-- The receipts that a client has more, from the journal.
use Rattle.std.proofs.Common.{◌≡◌, ℕ, true, false, if◌then◌else◌, List, [], ◌∷◌, ◌++◌, length, drop, Option, None, Some, refl, sym, ap, subst, ◌∙◌, append-nil}
use Rattle.std.specs.Prelude.{IfSome, reverse}
use Rattle.std.specs.List.{filter}
use Rattle.std.proofs.Math.Seq.{drop-append_seam}
use Rattle.std.proofs.lemmas.List.{reverse-append}
use Rattle.std.proofs.lemmas.List.Elements.{filter-append}
use Rattle.frame_core.specs.declared.record.Record.{Record}
use Rattle.frame_core.specs.declared.record.Record.TheVariants.{Isolate, Moved, Back}
use Rattle.hand_core.specs.Told.{Pair, Told, written_if}
use Rattle.state_core.specs.ZoneState.{ZoneState}
use Rattle.round_core.specs.Calls.{IsAddedBeside, IsCall, is_of, is_of_round}
use Rattle.client_core.specs.Receipts.{AreSince, Client, IsToldBeside, records_of}

-- the records of a client in two parts of a journal
records_of-append : (number : ℕ) (newer older : List Record) → records_of number (newer ++ older) ≡ records_of number older ++ records_of number newer
records_of-append number newer older = ap (filter (is_of number)) (reverse-append newer older) ∙ filter-append (is_of number) (reverse older) (reverse newer)

-- a record of the client is one more, any other is none
one_of : (number : ℕ) (entry : Record) → is_of number entry ≡ true → records_of number (entry ∷ []) ≡ entry ∷ []
one_of number entry own = ap (λ b. if b then entry ∷ [] else []) own

none_of : (number : ℕ) (entry : Record) → is_of number entry ≡ false → records_of number (entry ∷ []) ≡ []
none_of number entry other = ap (λ b. if b then entry ∷ [] else []) other

-- a step of a round is no call
no_call : (number : ℕ) (entry : Record) → is_of_round entry ≡ true → is_of number entry ≡ false
no_call number (Isolate page serial) of_round = refl
no_call number (Moved serial) of_round = refl
no_call number (Back cause serial) of_round = refl
no_call number entry of_round = absurd (cc)

-- the records of a client in a journal, without those that it had before
abbrev pub newer : ℕ → List Record → List Record → List Record
newer number before records = drop (length (records_of number before)) (records_of number records)

newer_added : (number : ℕ) (before records added : List Record) → records ≡ added ++ before → newer number before records ≡ records_of number added
newer_added number before records added is =
    ap (newer number before) is
    ∙ ap (drop (length (records_of number before))) (records_of-append number added before)
    ∙ drop-append_seam (records_of number before) (records_of number added)

-- what a lock says that clients of a zone were told, where one client has the slip of this pair
abbrev pub told_newer : Pair → ℕ → List Record → List Record → Option Told
told_newer pair number before records = Some (record { pair = pair; records = newer number before records })

pub told_newer_none : (pair : Pair) (number : ℕ) (before : List Record) (entry : Record) (records : List Record) → is_of_round entry ≡ true
    → told_newer pair number before (entry ∷ records) ≡ told_newer pair number before records
told_newer_none pair number before entry records of_round =
    let same : records_of number (entry ∷ records) ≡ records_of number records =
    records_of-append number (entry ∷ []) records ∙ ap (λ (l : List Record). records_of number records ++ l) (none_of number entry (no_call number entry of_round)) ∙ append-nil (records_of number records) in
    ap (λ (l : List Record). Some (record { pair = pair; records = drop (length (records_of number before)) l })) same

pub told_newer_call : (pair : Pair) (number : ℕ) (before : List Record) (z z_new : ZoneState) (client : ℕ) → client ≡ number → (call : IsCall client z z_new)
    → IsAddedBeside number before z.records → told_newer pair number before z_new.records ≡ written_if call.entry (told_newer pair number before z.records)
told_newer_call pair number before z z_new client same call so_far =
    let own : is_of number call.entry ≡ true = subst (λ (n : ℕ). is_of n call.entry ≡ true) same call.own in
    let more : z_new.records ≡ (call.entry ∷ so_far.added) ++ before = call.more ∙ ap (λ (l : List Record). call.entry ∷ l) so_far.is in
    let one : records_of number (call.entry ∷ so_far.added) ≡ records_of number so_far.added ++ call.entry ∷ [] =
    records_of-append number (call.entry ∷ []) so_far.added ∙ ap (λ (l : List Record). records_of number so_far.added ++ l) (one_of number call.entry own) in
    let newer_now : newer number before z_new.records ≡ newer number before z.records ++ call.entry ∷ [] =
    newer_added number before z_new.records (call.entry ∷ so_far.added) more ∙ one
    ∙ ap (λ (l : List Record). l ++ call.entry ∷ []) (sym (newer_added number before z.records so_far.added so_far.is)) in
    ap (λ (l : List Record). Some (record { pair = pair; records = l })) newer_now

-- nothing was told yet
pub told_newer_first : (pair : Pair) (number : ℕ) (before : List Record) (stub : Told) → stub.pair ≡ pair → stub.records ≡ [] → told_newer pair number before before ≡ Some stub
told_newer_first pair number before stub same none =
    let nothing : newer number before before ≡ [] = newer_added number before before [] refl in
    λ i. Some (record { pair = sym same i; records = (nothing ∙ sym none) i })

-- what was told are the receipts that the client has more
pub told_newer_last : (pair : Pair) (before after : List Record) (client client_new : Client) → IsAddedBeside client.number before after
    → AreSince client.receipts (told_newer pair client.number before after) client_new.receipts → IsToldBeside client client_new before after
told_newer_last pair before after client client_new beside since = record {
  beside = beside;
  receipts = since ∙ ap (λ (l : List Record). client.receipts ++ l) (newer_added client.number before after beside.added beside.is);
}

pub told_if : {A : Type 0} (client_of : A → Client) (pair : Pair) (before after : List Record) (client : Client) → IsAddedBeside client.number before after
    → (o : Option A) → IfSome o (λ x. AreSince client.receipts (told_newer pair client.number before after) (client_of x).receipts)
    → IfSome o (λ x. IsToldBeside client (client_of x) before after)
told_if client_of pair before after client beside None since = tt
told_if client_of pair before after client beside (Some x) since = told_newer_last pair before after client (client_of x) beside since
