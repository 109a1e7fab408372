-- `spelling::decimal` calls itself: the number falls to its tenth, whose digits come first.
use Rattle.text_output.proofs.spelling.+decimal.Given as goal

abbrev pub decreases-decimal : goal.decreases-decimal
decreases-decimal l = l.number
