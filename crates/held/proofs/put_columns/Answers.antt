-- `held::put_columns` meets its contract: the columns that are left put what all put.
use Rattle.std.proofs.Common.{◌≡◌, sym, ap, ◌∙◌, subst, ℕ, ◌+◌, ◌<◌, List, length, get_or, drop, add-one, arith}
use Rattle.std.proofs.Math.Seq.{drop-cons, drop-length}
use Rattle.columns.specs.declared.Column.{Column}
use Rattle.columns.specs.declared.Walk.{Walk}
use Rattle.columns.specs.Entries.{no_entry}
use Rattle.columns.specs.Walks.{Fits, FitsAll, moved, column_out, column_types, Page, put_one, put_all}
use Rattle.held.proofs.put_columns.Goals as goal

abbrev page : List ℕ → List ℕ → Walk → Page
page out types walk = record { out = out; types = types; walk = walk }

fits_now : (names : List ℕ) (size : ℕ) (w : Walk) (es : List Column) (i : ℕ) → i < length es → FitsAll names size w (drop i es)
    → Fits names size w (get_or es i no_entry) × FitsAll names size (moved names w (get_or es i no_entry)) (drop (i + 1) es)
unfolding FitsAll
fits_now names size w es i l f = rw (add-one i) (rw (drop-cons es i no_entry l) at f)

-- one column more on the left is one fewer on the right
one_more : (names : List ℕ) (p : Page) (es : List Column) (i : ℕ) → i < length es → put_all names (put_one names p (get_or es i no_entry)) (drop (i + 1) es) ≡ put_all names p (drop i es)
unfolding put_all
one_more names p es i l = rw (add-one i, drop-cons es i no_entry l)

no_more_left : (names : List ℕ) (p : Page) (es : List Column) → put_all names p (drop (length es) es) ≡ p
unfolding put_all
no_more_left names p es = rw (drop-length es)

-- what a call of `put_column` leaves
same_page : (names : List ℕ) (w : Walk) (c : Column) (zs ts : List ℕ) (r : Walk) (zs' ts' : List ℕ) → (r ≡ moved names w c) × (zs' ≡ column_out names w c zs) × (ts' ≡ column_types w c ts) → page zs' ts' r ≡ put_one names (page zs ts w) c
same_page names w c zs ts r zs' ts' e = ap (λ (x : Walk). page zs' ts' x) e.0 ∙ ap (λ (x : List ℕ). page x ts' (moved names w c)) e.1 ∙ ap (λ (x : List ℕ). page (column_out names w c zs) x (moved names w c)) e.2

pub loop-column-init : goal.loop-column-init
loop-column-init c = record {
  fits = subst (λ (w : Walk). FitsAll c.args.names.now (length c.args.out.now) w c.args.cols.now) (sym c.walk_in-w.ensures) c.requires;
  so_far = ap (λ (w : Walk). put_all c.args.names.now (page c.args.out.now c.args.types.now w) c.args.cols.now) c.walk_in-w.ensures;
}

pub put_column-w-requires : goal.put_column-w-requires
put_column-w-requires c = (fits_now c.args.names.now (length c.loop-column.out) c.loop-column.w c.args.cols.now c.loop-column.column-index c.loop-column-test.true c.loop-column.invariant.fits).0

pub loop-column-preserved : goal.loop-column-preserved
loop-column-preserved c =
    let names = c.args.names.now in let cols = c.args.cols.now in
    let i = c.loop-column.column-index in let w = c.loop-column.w in
    let e = get_or cols i no_entry in
    let rest = drop (i + 1) cols in
    let now = fits_now names (length c.loop-column.out) w cols i c.loop-column-test.true c.loop-column.invariant.fits in
    let long : length c.loop-column.out ≡ length c.put_column-w.new.out = omega arith in
    record {
      fits = subst (λ (n : ℕ). FitsAll names n c.put_column-w.result rest) long (subst (λ (x : Walk). FitsAll names (length c.loop-column.out) x rest) (sym c.put_column-w.ensures.0) now.1);
      so_far = ap (λ (p : Page). put_all names p rest) (same_page names w e c.loop-column.out c.loop-column.types c.put_column-w.result c.put_column-w.new.out c.put_column-w.new.types c.put_column-w.ensures)
          ∙ one_more names (page c.loop-column.out c.loop-column.types w) cols i c.loop-column-test.true ∙ c.loop-column.invariant.so_far;
    }

pub returns : goal.returns
returns c =
    let names = c.args.names.now in let cols = c.args.cols.now in
    let p = page c.loop-column.out c.loop-column.types c.loop-column.w in
    let n : length cols ≡ c.loop-column.column-index = omega arith in
    let e : p ≡ put_all names (page c.args.out.now c.args.types.now c.args.head.walk) cols
    = sym (no_more_left names p cols) ∙ ap (λ (i : ℕ). put_all names p (drop i cols)) n ∙ c.loop-column.invariant.so_far in
    (c.step_in.ensures, ap (λ (x : Page). x.out) e, ap (λ (x : Page). x.types) e)
