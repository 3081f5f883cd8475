mod ComesBack
