use Rattle.std.proofs.Common.{◌≡◌, ◌≢◌, ◌+◌, ◌++◌, List, ℕ, ap, ◌∙◌, arith}
use Rattle.axe_report.specs.Reports.{ReportValue, total_dim, IsSeriesOf, IsReport}
use Rattle.axe_report.specs.Spelling.{header_line, series_line}
use Rattle.axe_report.proofs.Failing.{fails_header, header_passes, fails_series, fails_rest, Opened, whole_report, other_series, no_series, empty, not_empty}
use Rattle.axe_report.proofs.reading.read_report.Goals as goal
use Rattle.axe_report.proofs.reading.read_report.Goals.{then-room-gt0-via-then-room-gt0, then-room-gt0-via-else-room-gt0+then-not-is_series_of}

pub returns-in_default-clause-fault : goal.returns-in_default-clause-fault
returns-in_default-clause-fault c = fails_header c.args.bytes.now c.in_default.ensures

pub returns-in_default-2-clause-fault : goal.returns-in_default-2-clause-fault
returns-in_default-2-clause-fault c =
    let opened : Opened c.args.bytes.now c.in-Some.header c.in_ok-factors.factors.items c.in_ok-factors.text.now = record {
      is_header = c.in-Some.ensures.0;
      factors = c.in_ok-factors.ensures.factors;
      witnessed = c.in_ok-factors.ensures.witnessed;
      spelled = c.in-Some.ensures.1 ∙ ap (λ (l : List ℕ). header_line c.in-Some.header ++ l) c.in_ok-factors.ensures.read;
      all = c.in_ok-factors.ensures.all;
    } in
    let none = rw (c.deref.ensures.value, c.in_default-2.is) at c.in_ok-series.ensures.read in
    fails_series c.args.bytes.now c.in-Some.header c.in_ok-factors.factors.items c.in_ok-factors.text.now opened
    (λ s x is whole. no_series c.in_ok-factors.factors.items c.in_ok-factors.text.now none s x is) (c.len-line.result + 2) (omega (arith, c.len-line.ensures, c.in_ok-factors.factors.ok.0))

pub returns-then-room-gt0-clause-fault : goal.returns-then-room-gt0-clause-fault
returns-then-room-gt0-clause-fault c =
    let opened : Opened c.args.bytes.now c.in-Some.header c.in_ok-factors.factors.items c.in_ok-factors.text.now = record {
      is_header = c.in-Some.ensures.0;
      factors = c.in_ok-factors.ensures.factors;
      witnessed = c.in_ok-factors.ensures.witnessed;
      spelled = c.in-Some.ensures.1 ∙ ap (λ (l : List ℕ). header_line c.in-Some.header ++ l) c.in_ok-factors.ensures.read;
      all = c.in_ok-factors.ensures.all;
    } in
    let found = rw (c.deref.ensures.value, c.in-Some-2.is) at c.in_ok-series.ensures.read in
    let none : (s x : List ℕ) → IsSeriesOf c.in_ok-factors.factors.items s → total_dim c.in_ok-factors.factors.items ≡ c.in-Some.header.dim → c.in_ok-factors.text.now ≢ series_line c.in_ok-factors.factors.items s ++ x =
    elim c.then-room-gt0.branch [
      | then-room-gt0-via-then-room-gt0 w ↦ λ s x is whole e. omega (arith, whole, c.in_ok-factors.ensures.room, w.if-room-gt0.true)
      | then-room-gt0-via-else-room-gt0+then-not-is_series_of w ↦ λ s x is whole e.
          other_series c.in-Some.header.dim c.in_ok-factors.factors.items c.in_ok-factors.text.now c.in-Some-2.series.items c.in-Some-2.rest.now c.in-Some.ensures.0.dim c.in_ok-factors.ensures.factors found.0 found.1
          (λ right. absurd (cc (w.is_series_of.ensures.1 (rw (w.deref-else-room-gt0.ensures.value, w.deref-else-room-gt0-2.ensures.value) right), w.if-not-is_series_of.true))) s x is e
    ] in
    fails_series c.args.bytes.now c.in-Some.header c.in_ok-factors.factors.items c.in_ok-factors.text.now opened none (c.len-line.result + 2) (omega (arith, c.len-line.ensures, c.in_ok-factors.factors.ok.0))

pub returns-then-not-is_empty-clause-fault : goal.returns-then-not-is_empty-clause-fault
returns-then-not-is_empty-clause-fault c =
    let opened : Opened c.args.bytes.now c.in-Some.header c.in_ok-factors.factors.items c.in_ok-factors.text.now = record {
      is_header = c.in-Some.ensures.0;
      factors = c.in_ok-factors.ensures.factors;
      witnessed = c.in_ok-factors.ensures.witnessed;
      spelled = c.in-Some.ensures.1 ∙ ap (λ (l : List ℕ). header_line c.in-Some.header ++ l) c.in_ok-factors.ensures.read;
      all = c.in_ok-factors.ensures.all;
    } in
    let found = rw (c.deref.ensures.value, c.in-Some-2.is) at c.in_ok-series.ensures.read in
    let belongs = c.is_series_of.ensures.0 c.if-not-is_series_of.false in
    let series = rw (c.deref-else-room-gt0.ensures.value, c.deref-else-room-gt0-2.ensures.value) at belongs in
    let report : ReportValue = record { header = c.in-Some.header; factors = c.in_ok-factors.factors.items; series = c.in-Some-2.series.items } in
    let is : IsReport report = record {
      header = c.in-Some.ensures.0;
      factors = c.in_ok-factors.ensures.factors;
      witnessed = c.in_ok-factors.ensures.witnessed;
      whole = omega (arith, c.in_ok-factors.ensures.room, c.if-room-gt0.false);
      series = series;
    } in
    fails_rest c.args.bytes.now report c.in_ok-factors.text.now c.in-Some-2.rest.now opened is found.1 (not_empty c.in-Some-2.rest.now c.is_empty.result c.is_empty.ensures c.if-not-is_empty.true)
    (c.len-line.result + 2 + 1) (omega (arith, c.len-line.ensures, c.in_ok-factors.factors.ok.0))

pub returns-clause-report : goal.returns-clause-report
returns-clause-report c =
    let opened : Opened c.args.bytes.now c.in-Some.header c.in_ok-factors.factors.items c.in_ok-factors.text.now = record {
      is_header = c.in-Some.ensures.0;
      factors = c.in_ok-factors.ensures.factors;
      witnessed = c.in_ok-factors.ensures.witnessed;
      spelled = c.in-Some.ensures.1 ∙ ap (λ (l : List ℕ). header_line c.in-Some.header ++ l) c.in_ok-factors.ensures.read;
      all = c.in_ok-factors.ensures.all;
    } in
    let found = rw (c.deref.ensures.value, c.in-Some-2.is) at c.in_ok-series.ensures.read in
    let belongs = c.is_series_of.ensures.0 c.if-not-is_series_of.false in
    let series = rw (c.deref-else-room-gt0.ensures.value, c.deref-else-room-gt0-2.ensures.value) at belongs in
    let report : ReportValue = record { header = c.in-Some.header; factors = c.in_ok-factors.factors.items; series = c.in-Some-2.series.items } in
    let is : IsReport report = record {
      header = c.in-Some.ensures.0;
      factors = c.in_ok-factors.ensures.factors;
      witnessed = c.in_ok-factors.ensures.witnessed;
      whole = omega (arith, c.in_ok-factors.ensures.room, c.if-room-gt0.false);
      series = series;
    } in
    let none = empty c.in-Some-2.rest.now c.is_empty.result c.is_empty.ensures c.if-not-is_empty.false in
    rw c.new.ensures
    (is, whole_report c.args.bytes.now report c.in_ok-factors.text.now opened (found.1 ∙ ap (λ (l : List ℕ). series_line c.in_ok-factors.factors.items c.in-Some-2.series.items ++ l) none))

-- a header was read, so the first line does not fail
pub returns-in_err-factors-clause-first_line : goal.returns-in_err-factors-clause-first_line
returns-in_err-factors-clause-first_line c bad = absurd (header_passes c.args.bytes.now c.in-Some.header c.in-Some.text.now c.in-Some.ensures.0 c.in-Some.ensures.1 bad)

pub returns-in_err-series-clause-first_line : goal.returns-in_err-series-clause-first_line
returns-in_err-series-clause-first_line c bad = absurd (header_passes c.args.bytes.now c.in-Some.header c.in-Some.text.now c.in-Some.ensures.0 c.in-Some.ensures.1 bad)

pub returns-in_default-2-clause-first_line : goal.returns-in_default-2-clause-first_line
returns-in_default-2-clause-first_line c bad = absurd (header_passes c.args.bytes.now c.in-Some.header c.in-Some.text.now c.in-Some.ensures.0 c.in-Some.ensures.1 bad)

pub returns-then-room-gt0-clause-first_line : goal.returns-then-room-gt0-clause-first_line
returns-then-room-gt0-clause-first_line c bad = absurd (header_passes c.args.bytes.now c.in-Some.header c.in-Some.text.now c.in-Some.ensures.0 c.in-Some.ensures.1 bad)

pub returns-then-not-is_empty-clause-first_line : goal.returns-then-not-is_empty-clause-first_line
returns-then-not-is_empty-clause-first_line c bad = absurd (header_passes c.args.bytes.now c.in-Some.header c.in-Some.text.now c.in-Some.ensures.0 c.in-Some.ensures.1 bad)

pub returns-clause-first_line : goal.returns-clause-first_line
returns-clause-first_line c bad = absurd (header_passes c.args.bytes.now c.in-Some.header c.in-Some.text.now c.in-Some.ensures.0 c.in-Some.ensures.1 bad)
