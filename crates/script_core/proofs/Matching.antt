-- A journal and a history that give pages different numbers say the same of addresses and words.
use Rattle.std.proofs.Common.{◌≡◌, ℕ, ◌<◌, Bool, true, false, List, [], ◌∷◌, length, refl, sym, ap, ◌∙◌, arith, Option, Some, None, nat_eq}
use Rattle.std.specs.Prelude.{◌&&◌, if◌then◌else◌}
use Rattle.std.proofs.lemmas.Bool.{cond-true, cond-false, eq-eqb, ne_eqb}
use Rattle.std.proofs.lemmas.Option.{same_Some}
use Rattle.frame_core.specs.declared.place.Address.{Address}
use Rattle.frame_core.specs.declared.record.Record.{Record}
use Rattle.frame_core.specs.declared.record.Record.TheVariants.{Map, Share, Unmap, Store}
use Rattle.frame_core.specs.History.{is_page, last, names, page_at, same_address}

pub record Match (journal history : List Record) : Type 0 where
  -- an address that names no page in the journal names none in the history
  pub none : (a : Address) → page_at journal a ≡ None → page_at history a ≡ None
  pub some : (a : Address) (p : ℕ) → page_at journal a ≡ Some p → (m : ℕ) × (page_at history a ≡ Some m)
  -- a page of the journal and the one of the history that has the same address have the same addresses and the same words
  pub same : (a b : Address) (p m : ℕ) → page_at journal a ≡ Some p → page_at history a ≡ Some m → names journal b p ≡ names history b m
  pub words : (a : Address) (p m w : ℕ) → page_at journal a ≡ Some p → page_at history a ≡ Some m → last journal p w ≡ last history m w
  -- the number of a page of the history is below the number of its records, which is what a later page gets
  pub older : (a : Address) (m : ℕ) → page_at history a ≡ Some m → m < length history

pub match_empty : Match [] []
match_empty = record {
  none = λ a e. refl;
  some = λ a p e. cc;
  same = λ a b p m e f. refl;
  words = λ a p m w e f. refl;
  older = λ a m e. cc;
}

-- a journal that says the same as one that matches matches too
pub match_same : (journal next history : List Record) → ((a : Address) → page_at next a ≡ page_at journal a) → ((p w : ℕ) → last next p w ≡ last journal p w) → Match journal history → Match next history
match_same journal next history names_are words_are was = record {
  none = λ a e. was.none a (sym (names_are a) ∙ e);
  some = λ a p e. was.some a p (sym (names_are a) ∙ e);
  same = λ a b p m e f. ap (λ (o : Option ℕ). is_page o p) (names_are b) ∙ was.same a b p m (sym (names_are a) ∙ e) f;
  words = λ a p m w e f. words_are p w ∙ was.words a p m w (sym (names_are a) ∙ e) f;
  older = was.older;
}

-- both match after a store
pub match_stored : (journal history : List Record) (a : Address) (word value : ℕ) → Match journal history → Match (Store 0 a word value ∷ journal) (Store 0 a word value ∷ history)
match_stored journal history a word value was = record {
  none = was.none;
  some = was.some;
  same = was.same;
  words = λ b p m w e f.
      (λ i. if was.same b a p m e f i && nat_eq word w then value else last journal p w)
      ∙ ap (λ x. if names history a m && nat_eq word w then value else x) (was.words b p m w e f);
  older = λ b m e. (let under : m < length history = was.older b m e in omega arith);
}

-- both match after a fresh page was mapped, which no address names before
module _ (journal history : List Record) (a : Address) (page : ℕ) (fresh : (b : Address) → page_at journal b ≡ Some page → ⊥) (was : Match journal history) where
  abbrev mapped_journal : List Record
  mapped_journal = Map 0 a page ∷ journal

  abbrev number : ℕ
  number = length history

  abbrev mapped_history : List Record
  mapped_history = Map 0 a number ∷ history

  unnamed : (o : Option ℕ) (n : ℕ) → (o ≡ Some n → ⊥) → is_page o n ≡ false
  unnamed None n never = refl
  unnamed (Some k) n never = ne_eqb k n (λ e. never (ap Some e))

  numbered : (b : Address) → page_at history b ≡ Some number → ⊥
  numbered b e = let under : number < length history = was.older b number e in omega arith

  -- what an address names after the mapping, by whether it is the mapped one
  abbrev in_journal : Bool → Address → Option ℕ
  in_journal at b = if at then Some page else page_at journal b

  abbrev in_history : Bool → Address → Option ℕ
  in_history at b = if at then Some number else page_at history b

  none_then : (b : Address) (at : Bool) → in_journal at b ≡ None → in_history at b ≡ None
  none_then b true e = cc
  none_then b false e = was.none b e

  some_then : (b : Address) (p : ℕ) (at : Bool) → in_journal at b ≡ Some p → (m : ℕ) × (in_history at b ≡ Some m)
  some_then b p true e = (number, refl)
  some_then b p false e = was.some b p e

  named_then : (b c : Address) (p m : ℕ) (at_b at_c : Bool) → in_journal at_b b ≡ Some p → in_history at_b b ≡ Some m → is_page (in_journal at_c c) p ≡ is_page (in_history at_c c) m
  named_then b c p m true true e f = eq-eqb page p (same_Some page p e) ∙ sym (eq-eqb number m (same_Some number m f))
  named_then b c p m true false e f = unnamed (page_at journal c) p (λ g. fresh c (g ∙ sym e)) ∙ sym (unnamed (page_at history c) m (λ g. numbered c (g ∙ sym f)))
  named_then b c p m false true e f = ne_eqb page p (λ same. fresh b (e ∙ ap Some (sym same))) ∙ sym (ne_eqb number m (λ same. numbered b (f ∙ ap Some (sym same))))
  named_then b c p m false false e f = was.same b c p m e f

  words_then : (b : Address) (p m w : ℕ) (at : Bool) → in_journal at b ≡ Some p → in_history at b ≡ Some m → last mapped_journal p w ≡ last mapped_history m w
  words_then b p m w true e f =
      cond-true (nat_eq page p) 0 (last journal p w) (eq-eqb page p (same_Some page p e))
      ∙ sym (cond-true (nat_eq number m) 0 (last history m w) (eq-eqb number m (same_Some number m f)))
  words_then b p m w false e f =
      cond-false (nat_eq page p) 0 (last journal p w) (ne_eqb page p (λ same. fresh b (e ∙ ap Some (sym same))))
      ∙ was.words b p m w e f
      ∙ sym (cond-false (nat_eq number m) 0 (last history m w) (ne_eqb number m (λ same. numbered b (f ∙ ap Some (sym same)))))

  older_then : (b : Address) (m : ℕ) (at : Bool) → in_history at b ≡ Some m → m < length mapped_history
  older_then b m true e = let is : number ≡ m = same_Some number m e in omega arith
  older_then b m false e = let under : m < length history = was.older b m e in omega arith

  pub match_mapped : Match mapped_journal mapped_history
  match_mapped = record {
    none = λ b e. none_then b (same_address b a) e;
    some = λ b p e. some_then b p (same_address b a) e;
    same = λ b c p m e f. named_then b c p m (same_address b a) (same_address c a) e f;
    words = λ b p m w e f. words_then b p m w (same_address b a) e f;
    older = λ b m e. older_then b m (same_address b a) e;
  }

-- both match after a share
module _ (journal history : List Record) (a alias : Address) (was : Match journal history) where
  -- the address that had the page before the share which an address names after it
  abbrev source : Bool → Address → Address
  source at b = if at then a else b

  shared_at : (records : List Record) (b : Address) → page_at (Share 0 a alias ∷ records) b ≡ page_at records (source (same_address b alias) b)
  shared_at records b = by_test (same_address b alias) where
    by_test : (t : Bool) → (if t then page_at records a else page_at records b) ≡ page_at records (source t b)
    by_test true = refl
    by_test false = refl

  abbrev from : Address → Address
  from b = source (same_address b alias) b

  pub match_shared : Match (Share 0 a alias ∷ journal) (Share 0 a alias ∷ history)
  match_shared = record {
    none = λ b e. shared_at history b ∙ was.none (from b) (sym (shared_at journal b) ∙ e);
    some = λ b p e. (let found = was.some (from b) p (sym (shared_at journal b) ∙ e) in (found.0, shared_at history b ∙ found.1));
    same = λ b c p m e f.
        ap (λ (o : Option ℕ). is_page o p) (shared_at journal c)
        ∙ was.same (from b) (from c) p m (sym (shared_at journal b) ∙ e) (sym (shared_at history b) ∙ f)
        ∙ sym (ap (λ (o : Option ℕ). is_page o m) (shared_at history c));
    words = λ b p m w e f. was.words (from b) p m w (sym (shared_at journal b) ∙ e) (sym (shared_at history b) ∙ f);
    older = λ b m e. (let under : m < length history = was.older (from b) m (sym (shared_at history b) ∙ e) in omega arith);
  }

-- both match after an unmap
module _ (journal history : List Record) (a : Address) (was : Match journal history) where
  still : (o : Option ℕ) (p : ℕ) (at : Bool) → (if at then None else o) ≡ Some p → o ≡ Some p
  still o p true e = cc
  still o p false e = e

  none_still : (b : Address) (at : Bool) → (if at then None else page_at journal b) ≡ None → (if at then None else page_at history b) ≡ None
  none_still b true e = refl
  none_still b false e = was.none b e

  some_still : (b : Address) (p : ℕ) (at : Bool) → (if at then None else page_at journal b) ≡ Some p → (m : ℕ) × ((if at then None else page_at history b) ≡ Some m)
  some_still b p true e = cc
  some_still b p false e = was.some b p e

  names_still : (c : Address) (p m : ℕ) (at : Bool) → names journal c p ≡ names history c m → is_page (if at then None else page_at journal c) p ≡ is_page (if at then None else page_at history c) m
  names_still c p m true e = refl
  names_still c p m false e = e

  pub match_unmapped : Match (Unmap 0 a ∷ journal) (Unmap 0 a ∷ history)
  match_unmapped = record {
    none = λ b e. none_still b (same_address b a) e;
    some = λ b p e. some_still b p (same_address b a) e;
    same = λ b c p m e f. names_still c p m (same_address c a) (was.same b c p m (still _ p (same_address b a) e) (still _ m (same_address b a) f));
    words = λ b p m w e f. was.words b p m w (still _ p (same_address b a) e) (still _ m (same_address b a) f);
    older = λ b m e. (let under : m < length history = was.older b m (still _ m (same_address b a) e) in omega arith);
  }
