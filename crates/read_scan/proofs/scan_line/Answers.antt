use native.Mathlib.Omega.{arith}
use mathlib.Core.Path.{refl, sym, ap, ◌∙◌}
use lib.ListN.{length}
use Rattle.read_scan.specs.Table.{Noted}
use Rattle.read_scan.proofs.Formed.{kind-most, unformed-line, has-kind, kind-in, formed-first, formed-end, when-at, refuses-byte, refuses-line, places-line}
use Rattle.read_scan.proofs.Table.{line-length, line-noted}
use Rattle.read_scan.proofs.scan_line.Goals as goal

pub line_fields-requires : goal.line_fields-requires
line_fields-requires c = (c.first_word-w.ensures.end.high, kind-most c.first_word-w.ensures)

pub refused_line-requires : goal.refused_line-requires
refused_line-requires c =
    (c.requires.0, unformed-line c.first_word-w.ensures c.in_default.ensures)

pub returns-then-byte_at-ne-LINE_FEED : goal.returns-then-byte_at-ne-LINE_FEED
returns-then-byte_at-ne-LINE_FEED c =
    let f = c.in-Some.ensures in (
      refuses-line (refuses-byte (formed-end c.first_word-w.ensures f) c.requires.0 (λ e. c.if-byte_at-ne-LINE_FEED.true (c.byte_at.ensures ∙ e))),
      record { size = refl; noted = tt },
    )

pub numbered-requires : goal.numbered-requires
numbered-requires c = kind-in c.first_word-w.ensures c.in-Some.ensures

pub returns : goal.returns
returns c =
    let f = c.in-Some.ensures in
    let g = sym c.byte_at.ensures ∙ c.if-byte_at-ne-LINE_FEED.false in
    let d = formed-end c.first_word-w.ensures f in
    let k = has-kind c.first_word-w.ensures f in
    let x = formed-first c.first_word-w.ensures f in (
      places-line d g _ (c.numbered.ensures ∙ x.kind) (λ z. k (sym c.numbered.ensures ∙ z)) c.placed_line.ensures,
      record {
        size = ap length c.put_line.ensures ∙ line-length c.args.work.now
            c.args.n c.first_word-w.result;
        noted = when-at (λ i. Noted c.args.t.now c.args.work.now c.args.at i c.args.n _) _ c.placed_line.result (line-noted x k d.low g c.requires.2 c.told-work (omega arith) c.put_line.ensures) c.placed_line.ensures.1;
      },
    )
