-- `answer` meets its contract: each way out is one case of `ask_of`, over the values that the calls gave.
use Rattle.std.specs.Prelude.{Err}
use Rattle.std.proofs.Common.{rules}
use mathlib.Core.Path.{◌≡◌, ap, ◌∙◌}
use Rattle.ask.proofs.LastGrounds.{gathered_decide}
use Rattle.ask.proofs.Deciding.{refused_within, found_none, ask_late, ask_full, ask_waits, ask_unsound, ask_barred, ask_misfit, ask_past, allowed_all}
use Rattle.ask.proofs.answer.answer.Goals as goal

pub returns-then-t-gt-LATEST : goal.returns-then-t-gt-LATEST
returns-then-t-gt-LATEST c = (ap Err c.new.ensures ∙ ask_late c.args.t c.args.q c.if-t-gt-LATEST.true, tt)

pub returns-then-is_none : goal.returns-then-is_none
returns-then-is_none c =
    let x = c.args in
    let e2 = c.lowest.ensures in
    (ap Err c.new-then-is_none.ensures ∙ ask_full x.t x.q c.if-t-gt-LATEST.false e2 c.is_none.ensures c.if-is_none.true, tt)

pub returns-in_err-none_found : goal.returns-in_err-none_found
returns-in_err-none_found c =
    let x = c.args in
    let e2 = c.lowest.ensures in
    let e3 = c.lowest-2.ensures in
    let e : c.from_residual.result ≡ Err c.in_err-none_found.field-0.0 = search rules in
    (e ∙ ask_waits x.t x.q c.if-t-gt-LATEST.false e2 c.is_none.ensures c.if-is_none.false e3 c.in_err-none_found.ensures, refused_within _ e)

pub returns-in_err-none_found-2 : goal.returns-in_err-none_found-2
returns-in_err-none_found-2 c =
    let x = c.args in
    let e2 = c.lowest.ensures in
    let e3 = c.lowest-2.ensures in
    let e : c.from_residual-in_err-none_found-2.result ≡ Err c.in_err-none_found-2.field-0.0 = search rules in (
      e ∙ ask_unsound x.t x.q c.if-t-gt-LATEST.false e2 c.is_none.ensures c.if-is_none.false e3 c.in_ok-none_found.ensures c.fault.ensures c.in_err-none_found-2.ensures,
      refused_within _ e,
    )

pub returns-in_err-none_found-3 : goal.returns-in_err-none_found-3
returns-in_err-none_found-3 c =
    let x = c.args in
    let e2 = c.lowest.ensures in
    let e3 = c.lowest-2.ensures in
    let e5 = c.lowest_barred.ensures in
    let e : c.from_residual-in_err-none_found-3.result ≡ Err c.in_err-none_found-3.field-0.0 = search rules in (
      e ∙ ask_barred x.t x.q c.if-t-gt-LATEST.false e2 c.is_none.ensures c.if-is_none.false e3 c.in_ok-none_found.ensures c.fault.ensures c.in_ok-none_found-2.ensures
          e5 c.in_err-none_found-3.ensures,
      refused_within _ e,
    )

pub returns-then-not-need_fits : goal.returns-then-not-need_fits
returns-then-not-need_fits c =
    let x = c.args in
    let e2 = c.lowest.ensures in
    let e3 = c.lowest-2.ensures in
    let e5 = c.lowest_barred.ensures in (
      ap Err c.new-then-not-need_fits.ensures
          ∙ ask_misfit x.t x.q c.if-t-gt-LATEST.false e2 c.is_none.ensures c.if-is_none.false e3 c.in_ok-none_found.ensures c.fault.ensures c.in_ok-none_found-2.ensures
          e5 c.in_ok-none_found-3.ensures c.need_fits.ensures c.if-not-need_fits.true,
      tt,
    )

pub returns : goal.returns
returns c =
    let x = c.args in
    let e2 = c.lowest.ensures in
    let e3 = c.lowest-2.ensures in
    let e5 = c.lowest_barred.ensures in
    let g3 = found_none _ 3 c.in_ok-none_found.ensures in
    let g4 = found_none _ 4 c.in_ok-none_found-2.ensures in
    let g5 = found_none _ 5 c.in_ok-none_found-3.ensures in
    let all = allowed_all x.t x.q e3 g3 c.fault.ensures g4 e5 g5 in (
      ask_past x.t x.q c.if-t-gt-LATEST.false e2 c.is_none.ensures c.if-is_none.false e3 c.in_ok-none_found.ensures c.fault.ensures c.in_ok-none_found-2.ensures
          e5 c.in_ok-none_found-3.ensures (gathered_decide x.t x.q c.gather.result c.gather.ensures all c.by_lines.ensures.0),
      c.by_lines.ensures.1,
    )
