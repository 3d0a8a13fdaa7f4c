use Rattle.std.proofs.Common.{◌≡◌, ◌++◌, ◌∙◌, [], List, ℕ, ap, length, length-append, refl, subst, sym, take, arith, Some}
use Rattle.std.specs.Io.KnownBytes.{Consumes, IsAtEnd}
use Rattle.std.specs.Prelude.{Result, Ok, Err, OnOk, IfOk, IsErrAnd}
use Rattle.std.proofs.KnownBytes.{Consumes-kept, Consumes-nil, Consumes-trans}
use Rattle.std.proofs.lemmas.List.{length-take-le}
use Rattle.std.proofs.lemmas.Result.{MatchResult-weaker, err_from_is_err_and}
use Rattle.text_core.specs.declared.fault.RunError.{RunError}
use Rattle.text_core.specs.Runs.{IsEnded}
use Rattle.text_core.specs.ScriptRunner.{ScriptRunner, HasRead}
use Rattle.text_core.proofs.Closing.{begun_read, breaks_off_written, cut_written, written_out}
use Rattle.text_core.proofs.Inputs.{consumed, end_finishes, took_none}
use Rattle.text_core.proofs.Variants.{both_err, if_known}
use Rattle.text_core.proofs.script_runner.ScriptRunner.run.Goals as goal

pub loop-init : goal.loop-init
loop-init g c = record {
  room = refl;
  line = omega (arith, ap (λ (s : ScriptRunner _). s.line) c.requires);
  none = ap (λ (s : ScriptRunner _). s.box) c.requires;
  reads = omega arith;
  few = omega arith;
  past = ([], Consumes-nil (g.R.Read.remaining c.args.reader.now), begun_read g.A.Respond.may c.args.self.now.machine c.args.self.now (g.W.Write.contents c.args.writer.now) c.requires, omega arith);
}

-- an input of which nothing is left was read to its end
all_read : (g : _) (c : goal.After-end g) (input : List ℕ) → g.R.Read.remaining c.args.reader.now ≡ Some input
    → HasRead g.A.Respond.may c.args.self.now.machine c.loop.self input (g.W.Write.contents c.args.writer.now) (g.W.Write.contents c.loop.writer)
all_read g c input known =
    let past = c.loop.invariant.past in
    let mid = g.R.Read.remaining c.loop.reader in
    let after = g.R.Read.remaining c.read_noted.new.self in
    let took : Consumes mid after [] = took_none mid after _ _ c.in-Ok-eq0.field-0-test c.in-Ok-eq0.ensures.bytes.0 in
    let over : IsAtEnd after = c.in-Ok-eq0.ensures.bytes.1 c.in-Ok-eq0.field-0-test (omega (arith, c.read_noted.auto.buffer, c.loop.invariant.room)) in
    end_finishes g.A.Respond.may c.args.self.now.machine c.loop.self past.0 input (g.R.Read.remaining c.args.reader.now) mid after _ _ known past.1 took over past.2

pub returns-in-Ok-eq0-clause-played : goal.returns-in-Ok-eq0-clause-played
returns-in-Ok-eq0-clause-played g c = record {
  ok = MatchResult-weaker c.end.result c.end.ensures.ok (λ totals ends. if_known (g.R.Read.remaining c.args.reader.now) _ (λ input known.
      (ends c.args.self.now.machine input _ _ (all_read g c input known)).0.fault)) (λ _ u. u);
  answered = (let start = c.args.self.now.machine in
      let first = g.W.Write.contents c.args.writer.now in
      let now = g.W.Write.contents c.loop.writer in
      MatchResult-weaker c.end.result c.end.ensures.ok (λ totals ends. if_known (g.R.Read.remaining c.args.reader.now) _ (λ input known.
      let done = ends start input first now (all_read g c input known) in
      record {
        answered = record { begins = done.0.begins; written = written_out c.loop.self now c.loop.invariant.none done.0.begins.answers first done.0.owes };
        totals_are = done.1;
      })) (λ _ u. u));
  err = (let start = c.args.self.now.machine in
      let left = g.R.Read.remaining c.args.reader.now in
      let after = g.R.Read.remaining c.read_noted.new.self in
      let first = g.W.Write.contents c.args.writer.now in
      let now = g.W.Write.contents c.loop.writer in
      MatchResult-weaker c.end.result (both_err c.end.result _ _ c.end.ensures.err c.end.ensures.syntax) (λ _ u. u) (λ (e : RunError) ends. if_known left _ (λ input known.
      cut_written g.A.Respond.may g.A.Respond.asks start c.loop.self input e left after first now c.loop.invariant.none ends.1 (ends.0 start input first now (all_read g c input known)))));
}

-- where a run ends by an error, nothing is said of a run that came to its end, nor of its totals
none_ended : {T E : Type 0} (P : Type 0) (Q : E → Type 0) (r : Result T E) → IsErrAnd r Q → OnOk r P
none_ended P Q (Ok value) never = absurd never
none_ended P Q (Err error) is = tt

none_totalled : {T E : Type 0} (F : T → Type 0) (Q : E → Type 0) (r : Result T E) → IsErrAnd r Q → IfOk r F
none_totalled F Q (Ok value) never = absurd never
none_totalled F Q (Err error) is = tt

pub play-requires : goal.play-requires
play-requires g c = omega (arith, c.in-Ok.ensures.bound.0, c.in-Ok.ensures.bound.1, c.read_noted.auto.buffer, c.loop.invariant.room, c.loop.invariant.line, c.loop-test.true)

pub returns-in_err-play-in-Ok-clause-played : goal.returns-in_err-play-in-Ok-clause-played
returns-in_err-play-in-Ok-clause-played g c = record {
  ok = none_ended _ _ c.from_residual.result c.from_residual.ensures.1;
  answered = none_totalled _ _ c.from_residual.result c.from_residual.ensures.1;
  err = (let p = err_from_is_err_and c.from_residual.result c.from_residual.ensures.1 in
      let start = c.args.self.now.machine in
      let past = c.loop.invariant.past in
      let left = g.R.Read.remaining c.args.reader.now in
      let mid = g.R.Read.remaining c.loop.reader in
      let after = g.R.Read.remaining c.read_noted.new.self in
      let first = g.W.Write.contents c.args.writer.now in
      let now = g.W.Write.contents c.play.new.writer in
      let piece = take c.in-Ok.count c.read_noted.new.buffer in
      let e = c.in_err-play-in-Ok.field-0.0 in
      rw (p.1, p.2) (if_known left _ (λ input known.
      let rest = consumed left after input (past.0 ++ piece) known (Consumes-trans left mid after past.0 piece past.1 c.in-Ok.ensures.bytes.0) in
      let E : List ℕ → Type 0 = λ i. IsEnded g.A.Respond.may g.A.Respond.asks start e.fault i e left after first now in
      subst E (sym rest.2) ((c.in_err-play-in-Ok.ensures.plays start past.0 first past.2).ends rest.0 left after))));
}

pub returns-in_err-play-in-Ok-clause-streams : goal.returns-in_err-play-in-Ok-clause-streams
returns-in_err-play-in-Ok-clause-streams g c = record {
  heard = none_ended _ _ c.from_residual.result c.from_residual.ensures.1;
  few = (let counted = c.in-Ok.ensures.reads.1 (omega (arith, c.in-Ok.count-test)) in omega (arith, counted, c.loop.invariant.few, c.loop-test.true));
  unread = (let p = err_from_is_err_and c.from_residual.result c.from_residual.ensures.1 in
      let past = c.loop.invariant.past in
      rw (p.1, p.2) (λ is. absurd ((c.in_err-play-in-Ok.ensures.plays c.args.self.now.machine past.0 (g.W.Write.contents c.args.writer.now) past.2).heard is)));
  stuck = (let p = err_from_is_err_and c.from_residual.result c.from_residual.ensures.1 in rw (p.1, p.2) c.in_err-play-in-Ok.ensures.stuck);
}

pub loop-preserved : goal.loop-preserved
loop-preserved g c =
    let past = c.loop.invariant.past in
    let piece = take c.in-Ok.count c.read_noted.new.buffer in
    let some = c.in-Ok.count-test in
    record {
      room = c.read_noted.auto.buffer ∙ c.loop.invariant.room;
      line = omega (arith, c.in_ok-play-in-Ok.ensures.line, c.in-Ok.ensures.bound.0, c.in-Ok.ensures.bound.1, c.read_noted.auto.buffer, c.loop.invariant.room, c.loop.invariant.line);
      none = c.in_ok-play-in-Ok.ensures.empty;
      reads = (let counted = c.in-Ok.ensures.reads.1 (omega (arith, some)) in omega (arith, counted, c.loop.invariant.reads));
      few = (let counted = c.in-Ok.ensures.reads.1 (omega (arith, some)) in omega (arith, counted, c.loop.invariant.few));
      past = (
        past.0 ++ piece,
        Consumes-trans _ _ _ past.0 piece past.1 c.in-Ok.ensures.bytes.0,
        c.in_ok-play-in-Ok.ensures.plays c.args.self.now.machine past.0 (g.W.Write.contents c.args.writer.now) past.2,
        (let n : length piece ≡ c.in-Ok.count = length-take-le c.in-Ok.count c.read_noted.new.buffer c.in-Ok.ensures.bound.0 in omega (arith, length-append past.0 piece, n, past.3, some)),
      );
    }

pub returns-in-Err-clause-played : goal.returns-in-Err-clause-played
returns-in-Err-clause-played g c = record {
  ok = tt;
  answered = tt;
  err = (let past = c.loop.invariant.past in
      let left = g.R.Read.remaining c.args.reader.now in
      let mid = g.R.Read.remaining c.loop.reader in
      let after = g.R.Read.remaining c.read_noted.new.self in
      if_known left _ (λ input known. breaks_off_written g.A.Respond.may g.A.Respond.asks c.args.self.now.machine c.loop.self past.0 input c.read_error.result left after (g.W.Write.contents c.args.writer.now) (g.W.Write.contents c.loop.writer)
      c.loop.invariant.none c.read_error.ensures (Consumes-kept left mid after past.0 past.1 c.in-Err.ensures.bytes) past.2));
}

pub returns-clause-played : goal.returns-clause-played
returns-clause-played g c = record {
  ok = tt;
  answered = tt;
  err = (let past = c.loop.invariant.past in
      let left = g.R.Read.remaining c.args.reader.now in
      if_known left _ (λ input known. breaks_off_written g.A.Respond.may g.A.Respond.asks c.args.self.now.machine c.loop.self past.0 input c.read_error-2.result left (g.R.Read.remaining c.loop.reader) (g.W.Write.contents c.args.writer.now) (g.W.Write.contents c.loop.writer)
      c.loop.invariant.none c.read_error-2.ensures past.1 past.2));
}
