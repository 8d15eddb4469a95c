use Rattle.text.proofs.print.+append_decimal.Given as goal

-- the number falls with each call
abbrev pub decreases-append_decimal : goal.decreases-append_decimal
decreases-append_decimal l = l.n
