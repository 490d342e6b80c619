-- A lent buffer that is filled from the front, after something was put into it.
use Rattle.std.specs.Prelude.{ℕ, ◌≡◌, List, ◌++◌}
use Rattle.printing.specs.Added.{Added}
use Rattle.printing.specs.declared.page.Page.{Page}

-- x is filled on with w, which gives y: the same buffer.
pub record Put (x y : Page) (w : List ℕ) : Type 0 where
  pub added : Added x.buffer.now x.at y.buffer.now y.at w
  pub loan : y.buffer.ghost_name ≡ x.buffer.ghost_name

-- Of `whole`, something was put, and `rest` is left to put.
pub record Begun (x y : Page) (rest whole : List ℕ) : Type 0 where
  pub part : List ℕ
  pub put : Put x y part
  pub joined : part ++ rest ≡ whole
